use Rattle.std.proofs.Common.{◌≡◌, length}
use Rattle.codec_payload_feedback_congestion.specs.Report.{reference_of}
use Rattle.codec_payload_feedback_congestion.proofs.report.reference_of.Given as goal

abbrev pub invariant-loop-rest : goal.invariant-loop-rest
invariant-loop-rest l = reference_of l.rest ≡ reference_of l.slots

abbrev pub decreases-loop-rest : goal.decreases-loop-rest
decreases-loop-rest l = length l.rest
