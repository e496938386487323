use Rattle.std.proofs.Common.{◌≡◌, ◌++◌, drop, map, take}
use Rattle.codec_payload_fec_receiver.specs.States.{held_fec, marked}
use Rattle.codec_payload_fec_receiver.proofs.fec_receiver.mark.Given as goal

-- those in front of the index are marked
abbrev pub invariant-loop-fec : goal.invariant-loop-fec
invariant-loop-fec l = map held_fec l.fecs ≡ map (marked l.number) (take l.fec-index (map held_fec l.initial.fecs)) ++ drop l.fec-index (map held_fec l.initial.fecs)
