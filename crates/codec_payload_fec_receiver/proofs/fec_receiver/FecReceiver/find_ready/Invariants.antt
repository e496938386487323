use Rattle.std.proofs.Common.{◌≡◌}
use Rattle.codec_payload_fec_receiver.specs.States.{tried}
use Rattle.codec_payload_fec_receiver.proofs.fec_receiver.FecReceiver.find_ready.Given as goal

-- the tries that are left lead to the same end
abbrev pub invariant-loop-left : goal.invariant-loop-left
invariant-loop-left l = tried l.left l.self ≡ tried l.tries l.fn.self

abbrev pub decreases-loop-left : goal.decreases-loop-left
decreases-loop-left l = l.left
