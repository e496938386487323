use Rattle.codec_payload_fec_receiver.proofs.OwnLemmas.{own_fec_is_made}
use Rattle.codec_payload_fec_receiver.proofs.theorems.own_fec_is_made.Goals as goal

pub returns : goal.returns
returns c = own_fec_is_made
