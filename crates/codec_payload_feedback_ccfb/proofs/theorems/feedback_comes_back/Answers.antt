use Rattle.codec_payload_feedback_ccfb.proofs.CcfbRoundTrip.{feedback_back}
use Rattle.codec_payload_feedback_ccfb.proofs.theorems.feedback_comes_back.Goals as goal

pub returns : goal.returns
returns c = feedback_back
