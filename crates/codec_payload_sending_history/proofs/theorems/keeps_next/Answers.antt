use Rattle.codec_payload_sending_history.proofs.HeldLemmas.{keeps_next as lemma}
use Rattle.codec_payload_sending_history.proofs.theorems.keeps_next.Goals as goal

pub returns : goal.returns
returns c = lemma
