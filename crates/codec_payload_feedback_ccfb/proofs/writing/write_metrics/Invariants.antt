use Rattle.std.proofs.Common.{◌≡◌, ◌++◌, length, true}
use Rattle.codec_payload_feedback_ccfb.specs.Ccfb.{metrics_bytes, metrics_fit}
use Rattle.codec_payload_feedback_ccfb.proofs.writing.write_metrics.Given as goal

abbrev pub invariant-loop-rest : goal.invariant-loop-rest
invariant-loop-rest l = record {
  written : l.out.items ++ metrics_bytes l.rest ≡ l.initial.out.items ++ metrics_bytes l.metrics;
  fit : metrics_fit l.rest ≡ true;
}

abbrev pub decreases-loop-rest : goal.decreases-loop-rest
decreases-loop-rest l = length l.rest
