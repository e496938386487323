use Rattle.codec_payload_timely_runs.proofs.RunTimes.{times_with_history}
use Rattle.codec_payload_timely_runs.proofs.theorems.units_come_in_time_with_history.Goals as goal

pub returns : goal.returns
returns c = times_with_history
