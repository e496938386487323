use Rattle.codec_payload_sending_forward.proofs.NumberRunLemmas.{keeps_gaps as lemma}
use Rattle.codec_payload_sending_forward.proofs.theorems.keeps_gaps.Goals as goal

pub returns : goal.returns
returns c = lemma
