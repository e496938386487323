use Rattle.codec_payload_datagram_runs.proofs.RestartRunExamples.{restart_can_be_met}
use Rattle.codec_payload_datagram_runs.proofs.theorems.restart_premises_can_be_met.Goals as goal

pub returns : goal.returns
returns c = restart_can_be_met
