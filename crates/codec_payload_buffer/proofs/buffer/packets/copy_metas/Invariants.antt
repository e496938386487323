use Rattle.std.proofs.Common.{◌≡◌, ◌++◌, map}
use Rattle.std.specs.Prelude.{slice_range}
use Rattle.codec_payload_buffer.specs.Held.{held_of}
use Rattle.codec_payload_buffer.specs.Steps.{metas_of}
use Rattle.codec_payload_buffer.proofs.buffer.packets.copy_metas.Given as goal

-- the copied items, with the items still to copy, are all items
abbrev pub invariant-loop-place : goal.invariant-loop-place
invariant-loop-place l = l.metas.items ++ metas_of (map held_of (slice_range l.packets.items l.place l.to)) ≡ metas_of (map held_of (slice_range l.packets.items l.from l.to))
