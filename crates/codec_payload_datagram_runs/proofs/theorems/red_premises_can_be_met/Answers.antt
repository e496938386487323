use Rattle.codec_payload_datagram_runs.proofs.RedRunExamples.{red_can_be_met}
use Rattle.codec_payload_datagram_runs.proofs.theorems.red_premises_can_be_met.Goals as goal

pub returns : goal.returns
returns c = red_can_be_met
