use Rattle.codec_payload_feedback_requests.proofs.KeyframeLemmas.{spacing}
use Rattle.codec_payload_feedback_requests.proofs.keyframe.keyframe_requests_are_spaced.Goals as goal

pub returns : goal.returns
returns c = spacing
