use Rattle.codec_payload_fec_runs.proofs.RunLemmas.{runs_with_fec_are_runs}
use Rattle.codec_payload_fec_runs.proofs.theorems.runs_with_fec_are_runs.Goals as goal

pub returns : goal.returns
returns c = runs_with_fec_are_runs
