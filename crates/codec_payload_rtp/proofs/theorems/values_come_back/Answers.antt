use Rattle.codec_payload_rtp.proofs.ValueLemmas.{values_again}
use Rattle.codec_payload_rtp.proofs.theorems.values_come_back.Goals as goal

pub returns : goal.returns
returns c = values_again
