use Rattle.codec_payload_jitter.proofs.FormerLemmas.{have_no_former}
use Rattle.codec_payload_jitter.proofs.theorems.first_senders_have_no_former.Goals as goal

pub returns : goal.returns
returns c = have_no_former
