use Rattle.codec_payload_datagram_runs.proofs.RedHistoryRunExamples.{red_history_can_be_met}
use Rattle.codec_payload_datagram_runs.proofs.theorems.red_history_premises_can_be_met.Goals as goal

pub returns : goal.returns
returns c = red_history_can_be_met
