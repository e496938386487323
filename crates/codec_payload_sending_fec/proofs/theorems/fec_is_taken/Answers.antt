use Rattle.codec_payload_sending_fec.proofs.TakenLemmas.{fec_is_taken}
use Rattle.codec_payload_sending_fec.proofs.theorems.fec_is_taken.Goals as goal

pub returns : goal.returns
returns c = fec_is_taken
