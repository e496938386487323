use Rattle.codec_payload_feedback_xr.proofs.XrRoundTrip.{reference_time_back}
use Rattle.codec_payload_feedback_xr.proofs.theorems.reference_time_comes_back.Goals as goal

pub returns : goal.returns
returns c = reference_time_back
