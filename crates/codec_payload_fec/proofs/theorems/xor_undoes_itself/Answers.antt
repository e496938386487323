use Rattle.codec_payload_fec.proofs.XorLemmas.{xor_undoes_itself}
use Rattle.codec_payload_fec.proofs.theorems.xor_undoes_itself.Goals as goal

pub returns : goal.returns
returns c = xor_undoes_itself
