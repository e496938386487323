use Rattle.codec_payload_feedback_wait.specs.Ages.{greatest_of}
use Rattle.codec_payload_feedback_wait.specs.Waits.{floor_of}
use Rattle.std.proofs.Common.{slice_index_or}
use Rattle.codec_payload_feedback_wait.proofs.AgeLemmas.{covered, le-greatest}
use Rattle.codec_payload_feedback_wait.proofs.adaptive_wait.limits_cover_what_came.Goals as goal

pub returns : goal.returns
returns c = record {
  covers = λ w bound k d within.
      covered (slice_index_or w.ages.places k d) (greatest_of w.ages.places) (floor_of w) w.settings.longest
      (le-greatest w.ages.places k d within) bound;
}
