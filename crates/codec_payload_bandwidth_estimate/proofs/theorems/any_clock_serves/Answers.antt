use Rattle.codec_payload_bandwidth_estimate.proofs.ClockLemmas.{any_clock_serves}
use Rattle.codec_payload_bandwidth_estimate.proofs.theorems.any_clock_serves.Goals as goal

pub returns : goal.returns
returns c = any_clock_serves
