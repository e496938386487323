use Rattle.codec_payload_sending_forward.proofs.TimeLemmas.{retimes as lemma}
use Rattle.codec_payload_sending_forward.proofs.theorems.retimes.Goals as goal

pub returns : goal.returns
returns c = lemma
