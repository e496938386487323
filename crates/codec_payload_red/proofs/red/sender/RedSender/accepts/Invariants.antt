use Rattle.std.proofs.Common.{◌≡◌, drop}
use Rattle.codec_payload_red.specs.RedLevels.{rises_above}
use Rattle.codec_payload_red.proofs.red.sender.RedSender.accepts.Given as goal

abbrev pub invariant-loop-distance : goal.invariant-loop-distance
invariant-loop-distance l = rises_above 0 l.distances ≡ rises_above l.low (drop l.distance-index l.distances)
