use Rattle.codec_payload_timely_runs.proofs.LargeLemmas.{logs_tell}
use Rattle.codec_payload_timely_runs.proofs.theorems.logs_show_large_units.Goals as goal

pub returns : goal.returns
returns c = logs_tell
