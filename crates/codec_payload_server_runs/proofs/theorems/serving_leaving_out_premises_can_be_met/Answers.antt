use Rattle.codec_payload_server_runs.proofs.ServeLeaveRunExamples.{can_be_met}
use Rattle.codec_payload_server_runs.proofs.theorems.serving_leaving_out_premises_can_be_met.Goals as goal

pub returns : goal.returns
returns c = can_be_met
