use Rattle.std.proofs.Common.{◌≡◌, drop}
use Rattle.codec_payload_feedback_ccfb.specs.Ccfb.{metrics_fit}
use Rattle.codec_payload_feedback_ccfb.proofs.feedback.metrics_fit.Given as goal

abbrev pub invariant-loop-metric : goal.invariant-loop-metric
invariant-loop-metric l = metrics_fit (drop l.metric-index l.metrics) ≡ metrics_fit l.metrics
