use Rattle.std.proofs.Common.{◌≡◌, ◌++◌, drop}
use Rattle.codec_payload_feedback_ccfb.specs.CcfbLog.{metrics_for}
use Rattle.codec_payload_feedback_ccfb.proofs.log.push_metrics.Given as goal

abbrev pub invariant-loop-time : goal.invariant-loop-time
invariant-loop-time l = l.metrics.items ++ metrics_for l.now (drop l.time-index l.times) ≡ l.initial.metrics.items ++ metrics_for l.now l.times
