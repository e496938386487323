use Rattle.std.proofs.Common.{◌≡◌, drop, max}
use Rattle.codec_payload_feedback_wait.specs.Ages.{greatest_of}
use Rattle.codec_payload_feedback_wait.proofs.latest_ages.LatestAges.greatest.Given as goal

abbrev pub invariant-loop-age : goal.invariant-loop-age
invariant-loop-age l = max l.greatest (greatest_of (drop l.age-index l.self.places)) ≡ greatest_of l.self.places
