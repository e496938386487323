use Rattle.std.proofs.Common.{◌≡◌, ◌++◌, length}
use Rattle.codec_payload_feedback_ccfb.specs.CcfbReading.{metrics_in}
use Rattle.codec_payload_feedback_ccfb.proofs.reading.read_metrics.Given as goal

abbrev pub invariant-loop-rest : goal.invariant-loop-rest
invariant-loop-rest l = l.metrics.items ++ metrics_in l.rest ≡ l.initial.metrics.items ++ metrics_in l.bytes

abbrev pub decreases-loop-rest : goal.decreases-loop-rest
decreases-loop-rest l = length l.rest
