use Rattle.codec_payload_timely_runs.proofs.LargeLemmas.{calls_count, runs_count}
use Rattle.codec_payload_timely_runs.proofs.theorems.large_units_are_counted.Goals as goal

pub returns : goal.returns
returns c = record { calls = calls_count; runs = runs_count }
