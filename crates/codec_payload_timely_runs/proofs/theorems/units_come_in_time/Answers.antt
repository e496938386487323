use Rattle.codec_payload_timely_runs.proofs.RunTimes.{times_over_datagrams}
use Rattle.codec_payload_timely_runs.proofs.theorems.units_come_in_time.Goals as goal

pub returns : goal.returns
returns c = times_over_datagrams
