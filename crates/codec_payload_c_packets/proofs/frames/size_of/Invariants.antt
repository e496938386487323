use Rattle.std.proofs.Common.{◌≡◌, ◌+◌, ◌<◌, drop}
use Rattle.codec_payload_c_packets.specs.Frames.{capped, rooms_in, size_with}
use Rattle.codec_payload_c_packets.proofs.frames.size_of.Given as goal

-- the size so far and the rest are the whole size
abbrev pub invariant-loop-place : goal.invariant-loop-place
invariant-loop-place l =
    (capped (l.size + size_with (rooms_in l.cut) (drop l.place l.frame.payloads)) ≡ capped (size_with (rooms_in l.cut) l.frame.payloads))
    × (l.size < 18446744073709551616)
