use Rattle.codec_payload_datagram_runs.proofs.HistoryRunExamples.{history_can_be_met}
use Rattle.codec_payload_datagram_runs.proofs.theorems.history_premises_can_be_met.Goals as goal

pub returns : goal.returns
returns c = history_can_be_met
