-- The calls on the rate that is offered to a publisher.
use Rattle.std.specs.Prelude.{◌≡◌, ℕ, Option, Some, None}
use Rattle.codec_payload_bandwidth_offer.specs.Offers.{Offer, after_arrival, after_due, after_lost, clock_with, micros_of, new_offer, rate_due}
use Rattle.codec_payload_bandwidth_offer.specs.declared.offer.OfferSettings.{OfferSettings}
use Rattle.codec_payload_c_path.specs.declared.object.PathObject.{PathObject}
use Rattle.codec_payload_c_path.specs.declared.object.PathObject.TheVariants as objects
use Rattle.codec_payload_c_path.specs.declared.rate_offer.RateOfferSettings.{RateOfferSettings}

abbrev pub offer_defaults : RateOfferSettings
offer_defaults = record { start = 300000; least = 50000; most = 10000000; wants = 2500000 }

abbrev pub offer_set : RateOfferSettings → OfferSettings
offer_set s = record { start = s.start; least = s.least; most = s.most; wants = s.wants }

-- no packet came
abbrev pub IsOfferOf : RateOfferSettings → PathObject → Type 0
IsOfferOf settings (objects.RateOffer r) = r.value ≡ new_offer (offer_set settings)
IsOfferOf settings _ = ⊥

-- a packet arrives with these 24 bits of abs-send-time
abbrev pub Arrives : (now abs_send_time size : ℕ) → Offer → ℕ → Offer → Type 0
Arrives now abs_send_time size r status s =
    (status ≡ 0)
    × (s ≡ after_arrival now (micros_of (clock_with abs_send_time r.clock)) size (record r { clock = clock_with abs_send_time r.clock }))

-- the same with the time in microseconds
abbrev pub ArrivesBy : (now sent size : ℕ) → Offer → ℕ → Offer → Type 0
ArrivesBy now sent size r status s = (status ≡ 0) × (s ≡ after_arrival now sent size r)

abbrev pub LosesPacket : Offer → ℕ → Offer → Type 0
LosesPacket r status s = (status ≡ 0) × (s ≡ after_lost r)

abbrev pub WantsRate : (wants : ℕ) → Offer → ℕ → Offer → Type 0
WantsRate wants r status s = (status ≡ 0) × (s ≡ record r { wants = wants })

-- Status 0: the rate to offer. Status 32: none is due
abbrev pub TellsRate : Option ℕ → ℕ → (before after : ℕ) → Type 0
TellsRate (Some rate) status before after = (status ≡ 0) × (after ≡ rate)
TellsRate None status before after = (status ≡ 32) × (after ≡ before)

pub record TakesRate (now round_trip : ℕ) (r : Offer) (status before after : ℕ) (s : Offer) : Type 0 where
  pub tells : TellsRate (rate_due now round_trip r) status before after
  pub leaves : s ≡ after_due now round_trip r
