use Rattle.std.proofs.Common.{◌≡◌, ◌≤◌, ◌+◌, drop}
use Rattle.codec_payload_feedback_wait.specs.Gaps.{lost_in}
use Rattle.codec_payload_feedback_wait.proofs.gaps.count_lost.Given as goal

abbrev pub invariant-loop-place : goal.invariant-loop-place
invariant-loop-place l =
    (l.lost + lost_in l.now l.lost_after (drop l.place-index l.places) ≡ lost_in l.now l.lost_after l.places)
    × (l.lost ≤ l.place-index)
