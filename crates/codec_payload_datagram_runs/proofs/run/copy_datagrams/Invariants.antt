use Rattle.std.proofs.Common.{◌≡◌, ◌++◌, take}
use Rattle.codec_payload_datagram_runs.specs.WireRuns.{bytes_in}
use Rattle.codec_payload_datagram_runs.proofs.run.copy_datagrams.Given as goal

-- the datagrams in front of this place were copied
abbrev pub invariant-loop-place : goal.invariant-loop-place
invariant-loop-place g l = bytes_in l.datagrams.items ≡ bytes_in l.fn.datagrams.items ++ take l.place l.sender.datagrams
