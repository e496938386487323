use Rattle.std.proofs.Common.{◌≡◌, ◌≤◌, ◌-◌, ◌++◌, drop, length, map}
use Rattle.codec_payload_base.specs.PayloadLists.{rooms_of}
use Rattle.codec_payload_fec.specs.Fec.{fec_bytes}
use Rattle.codec_payload_fec.specs.Writing.{fecs, lists_of}
use Rattle.codec_payload_fec.proofs.writing.put_all.Given as goal

-- what was appended and what the other groups have is what all groups have
abbrev pub invariant-loop-start : goal.invariant-loop-start
invariant-loop-start l =
    (l.out.payloads ++ map fec_bytes (fecs l.protection (drop l.start (lists_of l.packets))) ≡ l.fn.out.payloads ++ map fec_bytes (fecs l.protection (lists_of l.packets)))
    × (l.start ≤ length l.packets) × (rooms_of l.out ≡ rooms_of l.fn.out)

abbrev pub decreases-loop-start : goal.decreases-loop-start
decreases-loop-start l = length l.packets - l.start
