use Rattle.codec_payload_fec.proofs.XorLemmas.{xor_associates}
use Rattle.codec_payload_fec.proofs.theorems.xor_associates.Goals as goal

pub returns : goal.returns
returns c = xor_associates
