use Rattle.codec_payload_forward_runs.proofs.SwitchRunExamples.{can_be_met}
use Rattle.codec_payload_forward_runs.proofs.theorems.switching_premises_can_be_met.Goals as goal

pub returns : goal.returns
returns c = can_be_met
