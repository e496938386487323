use Rattle.codec_payload_forward_runs.proofs.StoreRunExamples.{can_be_met}
use Rattle.codec_payload_forward_runs.proofs.theorems.store_premises_can_be_met.Goals as goal

pub returns : goal.returns
returns c = can_be_met
