-- The rate stays within its bounds: by induction on the calls.
use Rattle.std.proofs.Common.{◌≡◌, ℕ, ◌-◌, ◌≤◌, min, max, List, [], ◌∷◌, arith}
use Rattle.std.proofs.Math.Nat.{mul-le-mul_left}
use Rattle.codec_payload_bandwidth_estimate.specs.Rates.{Call, HasNoTrial, Rate, RisesByTrials, StaysWithin, TrialAscends, after_calls, fall, halve, new_rate, raise, settle}

-- the bounds stay, and the rate is within them
pub record IsWithin (least most : ℕ) (r : Rate) : Type 0 where
  pub below : r.least ≡ least
  pub above : r.most ≡ most
  pub low : least ≤ r.estimate
  pub high : r.estimate ≤ most

within : (least most : ℕ) (r : Rate) (calls : List Call) → least ≤ most → IsWithin least most r → IsWithin least most (after_calls calls r)
within least most r [] h w = w
within least most r (raise to ∷ before) h w =
    let v = within least most r before h w in record { below = v.below; above = v.above; low = omega (arith, v.low, v.above, h); high = omega (arith, v.above) }
within least most r (fall found ∷ before) h w =
    let v = within least most r before h w in record { below = v.below; above = v.above; low = omega (arith, v.below); high = omega (arith, v.below, v.high, h) }
within least most r (settle found to ∷ before) h w =
    let v = within least most r before h w in record { below = v.below; above = v.above; low = omega (arith, v.low, v.above, h); high = omega (arith, v.above) }
within least most r (halve ∷ before) h w =
    let v = within least most r before h w in record { below = v.below; above = v.above; low = omega (arith, v.below); high = omega (arith, v.below, v.high, h) }

pub stays_within : StaysWithin
stays_within start least most calls h =
    let first : IsWithin least (max most least) (new_rate start least most) = record { below = omega arith; above = omega arith; low = omega arith; high = omega arith } in
    let w = within least (max most least) (new_rate start least most) calls (omega arith) first in
    (w.low, omega (arith, w.high, h))

-- the rate falls, and stays above the least
no_rise : (r : Rate) (calls : List Call) → r.least ≤ r.estimate → HasNoTrial calls
    → ((after_calls calls r).least ≡ r.least) × (r.least ≤ (after_calls calls r).estimate) × ((after_calls calls r).estimate ≤ r.estimate)
no_rise r [] h none = (omega arith, h, omega arith)
no_rise r (raise to ∷ before) h none = absurd none
no_rise r (fall found ∷ before) h none = let v = no_rise r before h none in (v.0, omega (arith, v.0), omega (arith, v.0, v.1, v.2))
no_rise r (settle found to ∷ before) h none = absurd none
no_rise r (halve ∷ before) h none = let v = no_rise r before h none in (v.0, omega (arith, v.0), omega (arith, v.0, v.1, v.2))

pub rises_by_trials : RisesByTrials
rises_by_trials r calls h none = (no_rise r calls h none).2

pub trial_ascends : TrialAscends
trial_ascends now later begun from to h =
    let longer : min (now - begun) 500000 ≤ min (later - begun) 500000 = omega (arith, h) in
    omega (arith, mul-le-mul_left (to - from) longer)
