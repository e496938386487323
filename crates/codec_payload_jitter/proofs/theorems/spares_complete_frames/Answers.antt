use Rattle.codec_payload_jitter.proofs.PressureLemmas.{spares_complete_frames as spared}
use Rattle.codec_payload_jitter.proofs.theorems.spares_complete_frames.Goals as goal

pub returns : goal.returns
returns c = spared
