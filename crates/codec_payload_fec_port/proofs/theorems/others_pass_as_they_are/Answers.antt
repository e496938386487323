use Rattle.codec_payload_fec_port.proofs.PassingLemmas.{others_pass}
use Rattle.codec_payload_fec_port.proofs.theorems.others_pass_as_they_are.Goals as goal

pub returns : goal.returns
returns c = others_pass
