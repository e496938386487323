use Rattle.codec_payload_sending_fec.proofs.TakenLemmas.{media_is_taken}
use Rattle.codec_payload_sending_fec.proofs.theorems.media_is_taken.Goals as goal

pub returns : goal.returns
returns c = media_is_taken
