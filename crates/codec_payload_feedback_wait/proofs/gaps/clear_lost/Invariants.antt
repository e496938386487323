use Rattle.std.proofs.Common.{◌≡◌, ◌++◌, drop, take}
use Rattle.codec_payload_feedback_wait.specs.Gaps.{without_lost}
use Rattle.codec_payload_feedback_wait.proofs.gaps.clear_lost.Given as goal

abbrev pub invariant-loop-place : goal.invariant-loop-place
invariant-loop-place l =
    l.places
    ≡ without_lost l.now l.lost_after (take l.place-index l.initial.places) ++ drop l.place-index l.initial.places
