use Rattle.codec_payload_datagram_runs.proofs.WireRunExamples.{can_be_met}
use Rattle.codec_payload_datagram_runs.proofs.theorems.premises_can_be_met.Goals as goal

pub returns : goal.returns
returns c = can_be_met
