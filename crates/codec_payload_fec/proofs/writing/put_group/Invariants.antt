use Rattle.std.proofs.Common.{◌≡◌, ◌++◌, map}
use Rattle.codec_payload_base.specs.PayloadLists.{rooms_of}
use Rattle.codec_payload_fec.specs.Fec.{fec_bytes}
use Rattle.codec_payload_fec.specs.Writing.{fecs_below, lists_of}
use Rattle.codec_payload_fec.proofs.writing.put_group.Given as goal

-- the first packets of FEC were appended
abbrev pub invariant-loop-n : goal.invariant-loop-n
invariant-loop-n l = (l.out.payloads ≡ l.fn.out.payloads ++ map fec_bytes (fecs_below l.n l.count (lists_of l.group))) × (rooms_of l.out ≡ rooms_of l.fn.out)
