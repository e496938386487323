use Rattle.codec_payload_fec.proofs.ProtectLemmas.{rebuilds_the_missing}
use Rattle.codec_payload_fec.proofs.theorems.rebuilds_the_missing.Goals as goal

pub returns : goal.returns
returns c = rebuilds_the_missing
