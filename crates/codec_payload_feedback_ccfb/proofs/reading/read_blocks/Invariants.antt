use Rattle.std.proofs.Common.{◌≡◌, length, map}
use Rattle.codec_payload_feedback_ccfb.specs.Ccfb.{report_of}
use Rattle.codec_payload_feedback_ccfb.specs.CcfbReading.{reports_at, with_reports}
use Rattle.codec_payload_feedback_ccfb.proofs.reading.read_blocks.Given as goal

-- the blocks so far, and those that are left
abbrev pub invariant-loop-rest : goal.invariant-loop-rest
invariant-loop-rest l = with_reports (map report_of l.reports.items) (reports_at l.rest) ≡ reports_at l.bytes

abbrev pub decreases-loop-rest : goal.decreases-loop-rest
decreases-loop-rest l = length l.rest
