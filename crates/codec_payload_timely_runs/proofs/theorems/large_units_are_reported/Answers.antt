use Rattle.codec_payload_timely_runs.proofs.LargeLemmas.{runs_tell, runs_tell_in_red, samples_tell}
use Rattle.codec_payload_timely_runs.proofs.theorems.large_units_are_reported.Goals as goal

pub returns : goal.returns
returns c = record { runs = runs_tell; in_red = runs_tell_in_red; samples = samples_tell }
