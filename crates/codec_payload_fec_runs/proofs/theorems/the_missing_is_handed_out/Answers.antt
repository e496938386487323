use Rattle.codec_payload_fec_runs.proofs.MissingLemmas.{the_missing_is_handed_out}
use Rattle.codec_payload_fec_runs.proofs.theorems.the_missing_is_handed_out.Goals as goal

pub returns : goal.returns
returns c = the_missing_is_handed_out
