use Rattle.codec_payload_sending_forward.proofs.TimeLemmas.{never_goes_back as lemma}
use Rattle.codec_payload_sending_forward.proofs.theorems.never_goes_back.Goals as goal

pub returns : goal.returns
returns c = lemma
