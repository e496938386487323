use Rattle.std.proofs.Common.{◌≡◌, None, replicate}
use Rattle.codec_payload_fec.proofs.store.empty_slots.Given as goal

abbrev pub invariant-loop-place : goal.invariant-loop-place
invariant-loop-place l = l.slots.items ≡ replicate l._place None
