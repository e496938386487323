-- The rate that is offered to a publisher. Times are in microseconds, rates in bits per second.
use Rattle.std.specs.Prelude.{ℕ, ◌+◌, ◌-◌, ◌*◌, ◌/◌, ◌%◌, ◌^◌, ◌||◌, min, nat_le, nat_lt, if◌then◌else◌, Bool, Option, Some, None}
use Rattle.codec_payload_base.specs.Extended.{extended}
use Rattle.codec_payload_bandwidth_estimator.specs.Estimates.{Estimate, after_noted, after_tick, new_estimate, noted, pace_of}
use Rattle.codec_payload_bandwidth_estimator.specs.declared.estimator.PacketOutcome.TheVariants as outcomes
use Rattle.codec_payload_bandwidth_offer.specs.declared.offer.OfferSettings.{OfferSettings}

-- `clock`: the latest abs-send-time, in units of 2^-26 seconds; `sent` and `arrived`: the latest packet by the publisher's clock, and by
-- the own one; the latest offer, and its time; no judgement before `next`
pub record Offer : Type 0 where
  pub estimator : Estimate
  pub wants : ℕ
  pub clock : ℕ
  pub sent : ℕ
  pub arrived : ℕ
  pub next : ℕ
  pub told : ℕ
  pub told_at : ℕ

abbrev pub new_offer : OfferSettings → Offer
new_offer s = record {
  estimator = new_estimate 0 s.start s.least s.most;
  wants = s.wants;
  clock = 17179869184;
  sent = 0;
  arrived = 0;
  next = 0;
  told = 0;
  told_at = 0;
}

-- ---- packets

-- 24 bits in units of 2^-18 seconds, as the nearest time to the latest one
abbrev pub clock_with : (abs_send_time clock : ℕ) → ℕ
clock_with abs_send_time clock = extended (2 ^ 32) (Some clock) (abs_send_time % 16777216 * 256)

abbrev pub micros_of : ℕ → ℕ
micros_of clock = clock * 15625 / 1048576

-- the latest packet is the one that was sent last
abbrev pub with_latest : (now sent : ℕ) → Offer → Offer
with_latest now sent o = if nat_le o.sent sent then record o { sent = sent; arrived = now } else o

abbrev pub after_arrival : (now sent size : ℕ) → Offer → Offer
after_arrival now sent size o =
    with_latest now sent (record o { estimator = noted (record { sent = sent; size = size; outcome = outcomes.Arrived now }) o.estimator })

abbrev pub after_lost : Offer → Offer
after_lost o = record o { estimator = noted (record { sent = o.sent; size = 0; outcome = outcomes.Lost }) o.estimator }

-- ---- the rate

-- the time by the publisher's clock
abbrev pub clock_at : ℕ → Offer → ℕ
clock_at now o = min (o.sent + (now - o.arrived)) (2 ^ 64 - 1)

abbrev pub offered : ℕ → Offer → ℕ
offered now o = min (pace_of (clock_at now o) o.estimator) o.wants

abbrev pub higher : ℕ → ℕ
higher rate = min (rate + rate / 5) (2 ^ 64 - 1)

abbrev pub trial_if : (time wants : ℕ) → Estimate → Estimate
trial_if time wants e = after_tick time e.rate.estimate (min (higher e.rate.estimate) wants) e

abbrev pub judged_at : (now round_trip : ℕ) → Offer → Offer
judged_at now round_trip o =
    record o { next = min (now + 50000) (2 ^ 64 - 1); estimator = trial_if (clock_at now o) o.wants (after_noted (clock_at now o) round_trip o.estimator) }

abbrev pub is_due : (now rate told told_at : ℕ) → Bool
is_due now rate told told_at = nat_lt (told / 32) ((rate - told) + (told - rate)) || nat_le 1000000 (now - told_at)

abbrev pub is_told : ℕ → Offer → Bool
is_told now o = is_due now (offered now o) o.told o.told_at

abbrev pub due_of : ℕ → Offer → Option ℕ
due_of now o = if is_told now o then Some (offered now o) else None

abbrev pub told_by : ℕ → Offer → Offer
told_by now o = if is_told now o then record o { told = offered now o; told_at = now } else o

-- the rate that is offered, if an offer is due
abbrev pub rate_due : (now round_trip : ℕ) → Offer → Option ℕ
rate_due now round_trip o = if nat_lt now o.next then None else due_of now (judged_at now round_trip o)

abbrev pub after_due : (now round_trip : ℕ) → Offer → Offer
after_due now round_trip o = if nat_lt now o.next then o else told_by now (judged_at now round_trip o)
