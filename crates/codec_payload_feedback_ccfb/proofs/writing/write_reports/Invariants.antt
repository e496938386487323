use Rattle.std.proofs.Common.{◌≡◌, ◌++◌, drop, map, true}
use Rattle.codec_payload_feedback_ccfb.specs.Ccfb.{report_of, reports_bytes, reports_fit}
use Rattle.std.specs.Prelude.{ℕ}
use Rattle.codec_payload_feedback_ccfb.proofs.writing.write_reports.Given as goal

abbrev pub invariant-loop-report : goal.invariant-loop-report
invariant-loop-report l =
    (l.out.items ++ reports_bytes (map report_of (drop l.report-index l.reports)) ≡ l.initial.out.items ++ reports_bytes (map report_of l.reports))
    × (left : ℕ) × (reports_fit left (map report_of (drop l.report-index l.reports)) ≡ true)
