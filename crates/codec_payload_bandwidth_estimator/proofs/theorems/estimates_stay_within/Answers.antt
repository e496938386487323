use Rattle.codec_payload_bandwidth_estimator.proofs.WithinLemmas.{stays_within}
use Rattle.codec_payload_bandwidth_estimator.proofs.theorems.estimates_stay_within.Goals as goal

pub returns : goal.returns
returns c = stays_within
