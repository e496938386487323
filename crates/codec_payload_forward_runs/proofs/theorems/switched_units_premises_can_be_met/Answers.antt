use Rattle.codec_payload_forward_runs.proofs.SwitchUnitsExamples.{units_can_be_met}
use Rattle.codec_payload_forward_runs.proofs.theorems.switched_units_premises_can_be_met.Goals as goal

pub returns : goal.returns
returns c = units_can_be_met
