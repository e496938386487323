use Rattle.codec_payload_red.proofs.RedRunLemmas.{recovers_sent}
use Rattle.codec_payload_red.proofs.red.theorems.recovered_were_sent.Goals as goal

pub returns : goal.returns
returns c = recovers_sent
