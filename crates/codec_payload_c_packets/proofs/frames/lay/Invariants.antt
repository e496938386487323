use Rattle.std.proofs.Common.{◌≡◌, ◌+◌, ◌≤◌, ◌++◌, length, take, drop}
use Rattle.codec_payload_c_packets.specs.Frames.{laid, rooms_in, size_with}
use Rattle.codec_payload_c_packets.proofs.frames.lay.Given as goal

-- the bytes so far, followed by the bytes still to write
abbrev pub invariant-loop-place : goal.invariant-loop-place
invariant-loop-place l =
    (take l.at l.bytes ++ laid l.cut.headroom l.cut.tailroom (drop l.place l.frame.payloads) (drop l.at l.bytes) ≡ laid l.cut.headroom l.cut.tailroom l.frame.payloads l.fn.bytes)
    × (l.at + size_with (rooms_in l.cut) (drop l.place l.frame.payloads) ≤ length l.bytes)
