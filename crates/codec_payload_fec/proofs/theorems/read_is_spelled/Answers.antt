use Rattle.codec_payload_fec.proofs.FecGrammar.{read_is_spelled}
use Rattle.codec_payload_fec.proofs.theorems.read_is_spelled.Goals as goal

pub returns : goal.returns
returns c = read_is_spelled
