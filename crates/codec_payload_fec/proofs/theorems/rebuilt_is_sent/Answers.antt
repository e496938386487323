use Rattle.codec_payload_fec.proofs.WriterLemmas.{rebuilt_is_sent}
use Rattle.codec_payload_fec.proofs.theorems.rebuilt_is_sent.Goals as goal

pub returns : goal.returns
returns c = rebuilt_is_sent
