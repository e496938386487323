use Rattle.std.proofs.Common.{◌≡◌, ◌+◌, ◌≤◌, map}
use Rattle.std.specs.Prelude.{slice_range, min}
use Rattle.codec_payload_buffer.specs.Held.{held_of}
use Rattle.codec_payload_buffer.specs.Scan.{total_size}
use Rattle.codec_payload_buffer.proofs.buffer.packets.payload_size.Given as goal

abbrev pub invariant-loop-place : goal.invariant-loop-place
invariant-loop-place l = record {
  -- the bytes so far, with the bytes still to count, are all bytes
  counted :
      min (l.size + total_size (map held_of (slice_range l.packets.items l.place l.to))) 18446744073709551615
      ≡ min (total_size (map held_of (slice_range l.packets.items l.from l.to))) 18446744073709551615;
  fits : l.size ≤ 18446744073709551615;
}
