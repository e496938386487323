use Rattle.codec_payload_fec_runs.proofs.RunLemmas.{release_with_fec}
use Rattle.codec_payload_fec_runs.proofs.theorems.release_with_fec.Goals as goal

pub returns : goal.returns
returns c = release_with_fec
