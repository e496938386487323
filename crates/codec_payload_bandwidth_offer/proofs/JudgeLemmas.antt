-- A judgement of the path, by its parts.
use Rattle.std.proofs.Common.{◌≡◌, ◌∙◌, ap, ℕ, ◌+◌, ◌-◌, ◌^◌, min}
use Rattle.codec_payload_bandwidth_estimator.specs.Estimates.{Estimate, after_noted}
use Rattle.codec_payload_bandwidth_offer.specs.Offers.{Offer, clock_at, judged_at, trial_if}

pub judged_as : (now round_trip time next : ℕ) (e : Estimate) (o : Offer) → time ≡ clock_at now o → next ≡ min (now + 50000) (2 ^ 64 - 1)
    → e ≡ trial_if time o.wants (after_noted time round_trip o.estimator) → record o { estimator = e; next = next } ≡ judged_at now round_trip o
judged_as now round_trip time next e o t n is = λ i. record o {
  estimator = (is ∙ ap (λ (x : ℕ). trial_if x o.wants (after_noted x round_trip o.estimator)) t) i;
  next = n i;
}
