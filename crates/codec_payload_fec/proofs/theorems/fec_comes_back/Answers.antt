use Rattle.codec_payload_fec.proofs.FecGrammar.{fec_comes_back}
use Rattle.codec_payload_fec.proofs.theorems.fec_comes_back.Goals as goal

pub returns : goal.returns
returns c = fec_comes_back
