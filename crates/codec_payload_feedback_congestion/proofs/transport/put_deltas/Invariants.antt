use Rattle.std.proofs.Common.{◌≡◌, ◌++◌, drop}
use Rattle.codec_payload_feedback_congestion.specs.Feedback.{deltas_of}
use Rattle.codec_payload_feedback_congestion.proofs.transport.put_deltas.Given as goal

abbrev pub invariant-loop-status : goal.invariant-loop-status
invariant-loop-status l = l.out.items ++ deltas_of l.time (drop l.status-index l.statuses) ≡ l.fn.out.items ++ deltas_of l.fn.from l.statuses
