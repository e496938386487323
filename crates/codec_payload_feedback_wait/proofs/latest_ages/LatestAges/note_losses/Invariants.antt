use Rattle.std.proofs.Common.{◌≡◌}
use Rattle.codec_payload_feedback_wait.specs.Ages.{ages_after_losses}
use Rattle.codec_payload_feedback_wait.proofs.latest_ages.LatestAges.note_losses.Given as goal

abbrev pub invariant-loop : goal.invariant-loop
invariant-loop l = l.self ≡ ages_after_losses l.counter l.initial.self
