use Rattle.std.proofs.Common.{◌≡◌, drop, map}
use Rattle.codec_payload_feedback_ccfb.specs.Ccfb.{report_of, reports_fit}
use Rattle.codec_payload_feedback_ccfb.proofs.feedback.reports_fit.Given as goal

abbrev pub invariant-loop-report : goal.invariant-loop-report
invariant-loop-report l = reports_fit l.left (map report_of (drop l.report-index l.reports)) ≡ reports_fit l.room (map report_of l.reports)
