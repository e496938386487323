use Rattle.codec_payload_fec_receiver.proofs.SoundLemmas.{handed_out_was_sent}
use Rattle.codec_payload_fec_receiver.proofs.theorems.handed_out_was_sent.Goals as goal

pub returns : goal.returns
returns c = handed_out_was_sent
