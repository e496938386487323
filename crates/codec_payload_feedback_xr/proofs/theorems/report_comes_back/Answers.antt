use Rattle.codec_payload_feedback_xr.proofs.XrRoundTrip.{report_back}
use Rattle.codec_payload_feedback_xr.proofs.theorems.report_comes_back.Goals as goal

pub returns : goal.returns
returns c = report_back
