use Rattle.codec_payload_sending_forward.proofs.Vp9Lemmas.{moves_ids as lemma}
use Rattle.codec_payload_sending_forward.proofs.theorems.moves_vp9_ids.Goals as goal

pub returns : goal.returns
returns c = lemma
