use Rattle.std.proofs.Common.{◌≡◌, drop, map}
use Rattle.codec_payload_buffer.specs.Held.{held_of}
use Rattle.codec_payload_buffer.specs.Rows.{next_head}
use Rattle.codec_payload_buffer.proofs.buffer.rows.find_head.Given as goal

-- the rest gives the same answer as all packets
abbrev pub invariant-loop-place : goal.invariant-loop-place
invariant-loop-place l = next_head l.last (map held_of (drop l.place l.packets.items)) ≡ next_head l.last (map held_of l.packets.items)
