use Rattle.codec_payload_forward_runs.proofs.LeaveRunExamples.{leaving_can_be_met}
use Rattle.codec_payload_forward_runs.proofs.theorems.leaving_premises_can_be_met.Goals as goal

pub returns : goal.returns
returns c = leaving_can_be_met
