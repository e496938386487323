use Rattle.codec_payload_sending_forward.proofs.NumberRunLemmas.{switches_next as lemma}
use Rattle.codec_payload_sending_forward.proofs.theorems.switches_next.Goals as goal

pub returns : goal.returns
returns c = lemma
