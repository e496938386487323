use Rattle.codec_payload_fec.proofs.XorLemmas.{xor_commutes}
use Rattle.codec_payload_fec.proofs.theorems.xor_commutes.Goals as goal

pub returns : goal.returns
returns c = xor_commutes
