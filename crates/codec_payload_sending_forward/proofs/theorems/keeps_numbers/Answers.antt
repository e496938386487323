use Rattle.codec_payload_sending_forward.proofs.NumberRunLemmas.{keeps_numbers as lemma}
use Rattle.codec_payload_sending_forward.proofs.theorems.keeps_numbers.Goals as goal

pub returns : goal.returns
returns c = lemma
