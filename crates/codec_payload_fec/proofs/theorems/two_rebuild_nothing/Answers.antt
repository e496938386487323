use Rattle.codec_payload_fec.proofs.ProtectLemmas.{two_rebuild_nothing}
use Rattle.codec_payload_fec.proofs.theorems.two_rebuild_nothing.Goals as goal

pub returns : goal.returns
returns c = two_rebuild_nothing
