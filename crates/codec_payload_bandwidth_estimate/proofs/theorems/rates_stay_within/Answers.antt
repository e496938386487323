use Rattle.codec_payload_bandwidth_estimate.proofs.RateLemmas.{rises_by_trials, stays_within, trial_ascends}
use Rattle.codec_payload_bandwidth_estimate.proofs.theorems.rates_stay_within.Goals as goal

pub returns : goal.returns
returns c = record { within = stays_within; rises = rises_by_trials; ascends = trial_ascends }
