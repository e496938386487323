use Rattle.std.proofs.Common.{◌≡◌, ◌++◌, drop, None, replicate}
use Rattle.codec_payload_fec.proofs.store.empty.Given as goal

abbrev pub invariant-loop-slot : goal.invariant-loop-slot
invariant-loop-slot l = l.slots ≡ replicate l.slot-index None ++ drop l.slot-index l.initial.slots
