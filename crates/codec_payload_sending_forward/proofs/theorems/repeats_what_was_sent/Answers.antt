use Rattle.codec_payload_sending_forward.proofs.RepeatLemmas.{repeats_what_was_sent as lemma}
use Rattle.codec_payload_sending_forward.proofs.theorems.repeats_what_was_sent.Goals as goal

pub returns : goal.returns
returns c = lemma
