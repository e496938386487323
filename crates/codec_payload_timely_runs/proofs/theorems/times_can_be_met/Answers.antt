use Rattle.codec_payload_timely_runs.proofs.TimelyRunExamples.{times_can_be_met}
use Rattle.codec_payload_timely_runs.proofs.theorems.times_can_be_met.Goals as goal

pub returns : goal.returns
returns c = times_can_be_met
