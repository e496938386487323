use Rattle.codec_payload_forward_runs.proofs.SwitchBackExamples.{back_can_be_met}
use Rattle.codec_payload_forward_runs.proofs.theorems.switched_back_premises_can_be_met.Goals as goal

pub returns : goal.returns
returns c = back_can_be_met
