use Rattle.codec_payload_timely_runs.proofs.RedRunTimes.{times_in_red}
use Rattle.codec_payload_timely_runs.proofs.theorems.units_come_in_time_in_red.Goals as goal

pub returns : goal.returns
returns c = times_in_red
