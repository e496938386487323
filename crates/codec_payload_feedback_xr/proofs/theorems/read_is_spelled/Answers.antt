use Rattle.codec_payload_feedback_xr.proofs.XrGrammar.{read_is_spelled}
use Rattle.codec_payload_feedback_xr.proofs.theorems.read_is_spelled.Goals as goal

pub returns : goal.returns
returns c = read_is_spelled
