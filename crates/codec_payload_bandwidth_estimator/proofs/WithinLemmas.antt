-- The estimate stays within its bounds: by induction on the calls.
use Rattle.std.specs.Prelude.{if◌then◌else◌, ◌||◌, is_some}
use Rattle.std.proofs.Common.{◌≡◌, ◌∙◌, ℕ, ◌≤◌, ◌-◌, Bool, true, false, List, [], ◌∷◌, Option, Some, None, refl, sym, subst, arith, nat_le, nat_lt, max, ◌/◌}
use Rattle.codec_payload_bandwidth_estimate.specs.declared.rate.Trial.{Trial}
use Rattle.codec_payload_bandwidth_estimate.specs.Losses.{after_period, are_many, usual_of}
use Rattle.codec_payload_bandwidth_estimate.specs.Rates.{Rate, halved, new_rate, raised}
use Rattle.codec_payload_bandwidth_estimator.specs.declared.estimator.Falls.{Falls}
use Rattle.codec_payload_bandwidth_estimator.specs.declared.estimator.PacketFate.{PacketFate}
use Rattle.codec_payload_bandwidth_estimator.specs.declared.estimator.PacketOutcome.{PacketOutcome}
use Rattle.codec_payload_bandwidth_estimator.specs.declared.estimator.PacketOutcome.TheVariants.{Arrived, Lost, Unknown}
use Rattle.codec_payload_bandwidth_estimator.specs.Estimates.{Estimate, after_fall, after_fates, after_feedback, after_rest, after_silence, after_tick, after_trial, begins_trial, ended_well, fallen_by, found_of, is_over, is_silent, judged_by, new_estimate, noted, after_return, falls_noted, is_longer, rest_watch, rested, standing_in, watched, way_by, with_outcome, with_trial_end}
use Rattle.codec_payload_bandwidth_estimator.specs.Runs.{Call, StaysWithin, after_calls, departs, feedback, tick}

-- the bounds stay, and the rate is within them
pub record IsWithin (least most : ℕ) (r : Rate) : Type 0 where
  pub order : least ≤ most
  pub below : r.least ≡ least
  pub above : r.most ≡ most
  pub low : least ≤ r.estimate
  pub high : r.estimate ≤ most

raised_within : (least most to : ℕ) (r : Rate) → IsWithin least most r → IsWithin least most (raised to r)
raised_within least most to r w =
    record { order = w.order; below = w.below; above = w.above; low = omega (arith, w.low, w.above, w.order); high = omega (arith, w.above) }

halved_within : (least most : ℕ) (r : Rate) → IsWithin least most r → IsWithin least most (halved r)
halved_within least most r w =
    record { order = w.order; below = w.below; above = w.above; low = omega (arith, w.below); high = omega (arith, w.below, w.high, w.order) }

fallen_within : (least most found : ℕ) (trial : Option Trial) (r : Rate) → IsWithin least most r → IsWithin least most (fallen_by trial found r)
fallen_within least most found None r w =
    record { order = w.order; below = w.below; above = w.above; low = omega (arith, w.below); high = omega (arith, w.below, w.high, w.order) }
fallen_within least most found (Some trial) r w =
    record { order = w.order; below = w.below; above = w.above; low = omega (arith, w.low, w.above, w.order); high = omega (arith, w.above) }

either : (least most : ℕ) (b : Bool) (x y : Estimate) → IsWithin least most x.rate → IsWithin least most y.rate → IsWithin least most (if b then x else y).rate
either least most true x y h k = h
either least most false x y h k = k

trial_within : (least most now to : ℕ) (e : Estimate) → IsWithin least most e.rate → IsWithin least most (after_trial now to e).rate
trial_within least most now to e w = either least most (ended_well e.arrivals to e.watch) _ _ (raised_within least most to e.rate w) w

trial_end_within : (least most now : ℕ) (trial : Option Trial) (e : Estimate) → IsWithin least most e.rate → IsWithin least most (with_trial_end now trial e).rate
trial_end_within least most now None e w = w
trial_end_within least most now (Some trial) e w =
    either least most (nat_le 800000 (e.watch.newest - trial.begun.0)) (after_trial now trial.to e) e (trial_within least most now trial.to e w) w

rest_within : (least most now standing : ℕ) (e : Estimate) → IsWithin least most e.rate → IsWithin least most (after_rest now standing e).rate
rest_within least most now standing e w = trial_end_within least most now e.trial (rested (rest_watch standing (is_some e.trial) e.watch) e) w

return_within : (least most now : ℕ) (e : Estimate) → IsWithin least most e.rate → IsWithin least most (after_return now e).rate
return_within least most now e w = either least most (nat_lt 0 e.watch.held) _ e (raised_within least most (e.watch.held / 2) e.rate w) w

way_within : (least most now standing : ℕ) (falls : Option Falls) (e : Estimate) → IsWithin least most e.rate → IsWithin least most (way_by now standing falls e).rate
way_within least most now standing None e w = w
way_within least most now standing (Some f) e w =
    either least most (is_longer now (usual_of e.losses) e.watch.follows (falls_noted now standing f)) _ _ (raised_within least most (f.rate / 2) e.rate w) w

judged_within : (least most now round_trip standing : ℕ) (many : Bool) (e : Estimate) → IsWithin least most e.rate
    → IsWithin least most (judged_by now round_trip standing many e).rate
judged_within least most now round_trip standing many e w =
    either least most (many || is_over standing (is_some e.trial) e.watch.usual)
    (if nat_le e.watch.hold now then after_fall now round_trip standing e else e) (after_return now (after_rest now standing e))
    (either least most (nat_le e.watch.hold now) (after_fall now round_trip standing e) e (fallen_within least most (found_of e.arrivals e.rate.estimate) e.trial e.rate w) w)
    (return_within least most now (after_rest now standing e) (rest_within least most now standing e w))

outcome_rate : (sent size : ℕ) (outcome : PacketOutcome) (e : Estimate) → (with_outcome sent size outcome e).rate ≡ e.rate
outcome_rate sent size (Arrived at) e = refl
outcome_rate sent size Lost e = refl
outcome_rate sent size Unknown e = refl

-- packets alone change no rate
fates_rate : (fates : List PacketFate) (e : Estimate) → (after_fates fates e).rate ≡ e.rate
fates_rate [] e = refl
fates_rate (fate ∷ fates) e =
    fates_rate fates (noted fate e) ∙ outcome_rate fate.sent fate.size fate.outcome (record e { watch = record e.watch { newest = max e.watch.newest fate.sent } })

feedback_within : (least most now round_trip : ℕ) (fates : List PacketFate) (e : Estimate) → IsWithin least most e.rate
    → IsWithin least most (after_feedback now round_trip fates e).rate
feedback_within least most now round_trip fates e w =
    let m : Estimate = after_fates fates e in
    let n : Estimate = record m { watch = watched (standing_in m.delays) m.trial m.watch; losses = after_period now m.losses } in
    let j : Estimate = judged_by now round_trip (standing_in m.delays) (are_many now m.losses) n in
    way_within least most now (standing_in m.delays) j.falls j
    (judged_within least most now round_trip (standing_in m.delays) (are_many now m.losses) n
    (subst (λ (r : Rate). IsWithin least most r) (sym (fates_rate fates e)) w))

silence_within : (least most now : ℕ) (e : Estimate) → IsWithin least most e.rate → IsWithin least most (after_silence now e).rate
silence_within least most now e w = either least most (is_silent now e.watch.waits) _ e (halved_within least most e.rate w) w

tick_within : (least most now sending wanted : ℕ) (e : Estimate) → IsWithin least most e.rate → IsWithin least most (after_tick now sending wanted e).rate
tick_within least most now sending wanted e w =
    let s : IsWithin least most (after_silence now e).rate = silence_within least most now e w in
    either least most (begins_trial now wanted (after_silence now e)) _ (after_silence now e) s s

within : (least most : ℕ) (calls : List Call) (e : Estimate) → IsWithin least most e.rate → IsWithin least most (after_calls calls e).rate
within least most [] e w = w
within least most (feedback now round_trip fates ∷ before) e w = feedback_within least most now round_trip fates (after_calls before e) (within least most before e w)
within least most (tick now sending wanted ∷ before) e w = tick_within least most now sending wanted (after_calls before e) (within least most before e w)
within least most (departs now ∷ before) e w = within least most before e w

pub stays_within : StaysWithin
stays_within now start least most calls h =
    let first : IsWithin least most (new_rate start least most) =
    record { order = h; below = omega arith; above = omega (arith, h); low = omega (arith, h); high = omega (arith, h) } in
    let w = within least most calls (new_estimate now start least most) first in
    (w.low, w.high)
