use Rattle.codec_payload_feedback_xr.proofs.XrRoundTrip.{dlrr_back}
use Rattle.codec_payload_feedback_xr.proofs.theorems.dlrr_comes_back.Goals as goal

pub returns : goal.returns
returns c = dlrr_back
