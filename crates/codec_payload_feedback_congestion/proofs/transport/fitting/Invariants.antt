use Rattle.std.proofs.Common.{◌≡◌, ◌+◌, ◌-◌, ◌≤◌, length}
use Rattle.codec_payload_feedback_congestion.specs.Feedback.{fitting}
use Rattle.codec_payload_feedback_congestion.proofs.transport.fitting.Given as goal

abbrev pub invariant-loop-rest : goal.invariant-loop-rest
invariant-loop-rest l = record {
  within : l.count ≤ l.most;
  here : l.count + length l.rest ≡ length l.statuses;
  same : l.count + fitting (l.most - l.count) l.time l.rest ≡ fitting l.most l.from l.statuses;
}

abbrev pub decreases-loop-rest : goal.decreases-loop-rest
decreases-loop-rest l = length l.rest
