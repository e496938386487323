use Rattle.codec_payload_receiver.proofs.RedOnceLemmas.{stored_once}
use Rattle.codec_payload_receiver.proofs.theorems.stores_each_time_once.Goals as goal

pub returns : goal.returns
returns c = stored_once
