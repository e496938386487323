use Rattle.codec_payload_sending_history.proofs.HeldLemmas.{holds_latest as lemma}
use Rattle.codec_payload_sending_history.proofs.theorems.holds_latest.Goals as goal

pub returns : goal.returns
returns c = lemma
