-- The rate that a path carries. Times are in microseconds, rates in bits per second.
use Rattle.std.specs.Prelude.{ℕ, ◌+◌, ◌-◌, ◌*◌, ◌/◌, ◌^◌, ◌&&◌, ◌||◌, not, min, max, nat_le, nat_lt, if◌then◌else◌, Bool, true, false, List, [], ◌∷◌, Option, Some, None, is_some}
use Rattle.codec_payload_bandwidth_estimate.specs.declared.arrivals.Arrival.{Arrival}
use Rattle.codec_payload_bandwidth_estimate.specs.declared.rate.Trial.{Trial}
use Rattle.codec_payload_bandwidth_estimate.specs.Arrivals.{after_arrival, link_rate_of, no_arrivals, rate_of}
use Rattle.codec_payload_bandwidth_estimate.specs.Delays.{Measured, above_of, after_packet, followed, no_delays, standing_of}
use Rattle.codec_payload_bandwidth_estimate.specs.Losses.{Counted, after_fate, after_period, are_many, no_losses, usual_of}
use Rattle.codec_payload_bandwidth_estimate.specs.Rates.{Rate, fallen, halved, new_rate, raised, settled, trial_rate_at}
use Rattle.codec_payload_bandwidth_estimate.specs.Steadiness.{begun_at, is_steady, noted_at}
use Rattle.codec_payload_bandwidth_estimator.specs.declared.estimator.Falls.{Falls}
use Rattle.codec_payload_bandwidth_estimator.specs.declared.estimator.PacketFate.{PacketFate}
use Rattle.codec_payload_bandwidth_estimator.specs.declared.estimator.PacketOutcome.{PacketOutcome}
use Rattle.codec_payload_bandwidth_estimator.specs.declared.estimator.PacketOutcome.TheVariants.{Arrived, Lost, Unknown}
use Rattle.codec_payload_bandwidth_estimator.specs.declared.estimator.Watch.{Watch}

pub record Estimate : Type 0 where
  pub delays : Measured
  pub arrivals : List (Option Arrival)
  pub losses : Counted
  pub rate : Rate
  pub trial : Option Trial
  pub falls : Option Falls
  pub watch : Watch

-- what a clock shows last
abbrev pub end_of_time : ℕ
end_of_time = 2 ^ 64 - 1

-- a time after another
abbrev pub later : (now wait : ℕ) → ℕ
later now wait = min (now + wait) end_of_time

abbrev pub new_estimate : (now start least most : ℕ) → Estimate
new_estimate now start least most = record {
  delays = no_delays;
  arrivals = no_arrivals;
  losses = no_losses;
  rate = new_rate start least most;
  trial = None;
  falls = None;
  watch = record {
    newest = 0;
    waits = None;
    hold = 0;
    next = now;
    wait = 2000000;
    least = end_of_time;
    usual = 0;
    draining = false;
    held = 0;
    steps = 2;
    follows = 0;
  };
}

-- ---- packets

-- a packet that arrived: it waited if its queueing delay is above 12 ms
abbrev pub with_arrival : (sent at size : ℕ) → Estimate → Estimate
with_arrival sent at size e = record e {
  losses = after_fate false e.losses;
  delays = after_packet sent at e.delays;
  arrivals = after_arrival at size (nat_lt 12000 (above_of sent at (after_packet sent at e.delays))) e.arrivals;
}

abbrev pub with_outcome : (sent size : ℕ) → PacketOutcome → Estimate → Estimate
with_outcome sent size (Arrived at) e = with_arrival sent at size e
with_outcome sent size Lost e = record e { losses = after_fate true e.losses }
with_outcome sent size Unknown e = record e { arrivals = after_arrival 0 size true e.arrivals }

abbrev pub noted : PacketFate → Estimate → Estimate
noted fate e = with_outcome fate.sent fate.size fate.outcome (record e { watch = record e.watch { newest = max e.watch.newest fate.sent } })

abbrev pub after_fates : List PacketFate → Estimate → Estimate
after_fates [] e = e
after_fates (fate ∷ fates) e = after_fates fates (noted fate e)

-- ---- a queue

abbrev pub standing_in : Measured → ℕ
standing_in m = min (standing_of m) end_of_time

abbrev pub is_settled : Option Trial → Watch → Bool
is_settled None w = false
is_settled (Some trial) w = nat_le 700000 (w.newest - trial.begun.0)

-- feedback came: nothing is waited for
abbrev pub watched : (standing : ℕ) → Option Trial → Watch → Watch
watched standing trial w = record w { waits = None; least = if is_settled trial w then min w.least standing else w.least }

abbrev pub is_over : (standing : ℕ) (in_trial : Bool) (usual : ℕ) → Bool
is_over standing in_trial usual = nat_lt (min (usual + (if in_trial then 20000 else 30000)) end_of_time) standing

-- a packet left 700 ms ago, and no feedback came since
abbrev pub is_silent : (now : ℕ) → Option ℕ → Bool
is_silent now None = false
is_silent now (Some since) = nat_lt 700000 (now - since)

abbrev pub link_or : Option ℕ → ℕ → ℕ
link_or None estimate = estimate / 2
link_or (Some rate) estimate = min rate end_of_time

abbrev pub less_a_twentieth : ℕ → ℕ
less_a_twentieth rate = rate - rate / 20

abbrev pub found_of : List (Option Arrival) → ℕ → ℕ
found_of arrivals estimate = less_a_twentieth (link_or (link_rate_of arrivals) estimate)

abbrev pub longer : ℕ → ℕ
longer wait = min (min (wait * 2) end_of_time) 6000000

abbrev pub fall_watch : (now round_trip standing : ℕ) → Bool → Watch → Watch
fall_watch now round_trip standing in_trial w = record w {
  hold = later (later now round_trip) 200000;
  next = later now (if in_trial then longer w.wait else w.wait);
  wait = if in_trial then longer w.wait else w.wait;
  draining = nat_lt 12000 standing;
  held = 0;
  steps = 1;
}

-- a series of falls begins with the first one: the queueing delay counts from a round trip later on
abbrev pub row_of : (now round_trip rate lost : ℕ) → Option Falls → Falls
row_of now round_trip rate lost None = record { rate = rate; lost = lost; steady = begun_at (later now round_trip) }
row_of now round_trip rate lost (Some f) = f

abbrev pub fallen_by : Option Trial → ℕ → Rate → Rate
fallen_by None found r = fallen found r
fallen_by (Some trial) found r = settled found trial.to r

abbrev pub after_fall : (now round_trip standing : ℕ) → Estimate → Estimate
after_fall now round_trip standing e = record e {
  rate = fallen_by e.trial (found_of e.arrivals e.rate.estimate) e.rate;
  watch = fall_watch now round_trip standing (is_some e.trial) e.watch;
  trial = None;
  falls = Some (row_of now round_trip e.rate.estimate (usual_of e.losses) e.falls);
}

-- ---- no queue

abbrev pub average : (usual standing : ℕ) → ℕ
average usual standing = min ((usual * 7 + standing) / 8) 15000

abbrev pub rest_watch : (standing : ℕ) → Bool → Watch → Watch
rest_watch standing in_trial w = record w {
  usual = if in_trial || w.draining then w.usual else average w.usual standing;
  draining = w.draining && nat_lt 15000 standing;
}

abbrev pub arrives : Option ℕ → ℕ → Bool
arrives None to = false
arrives (Some rate) to = nat_le (to * 7 / 10) rate

abbrev pub ended_well : List (Option Arrival) → ℕ → Watch → Bool
ended_well arrivals to w = arrives (rate_of arrivals) to && nat_le w.least (min (w.usual + 12000) end_of_time)

abbrev pub after_trial : (now to : ℕ) → Estimate → Estimate
after_trial now to e =
    if ended_well e.arrivals to e.watch then record e { trial = None; rate = raised to e.rate; watch = record e.watch { next = later now 500000; steps = 2 } }
    else record e { trial = None; watch = record e.watch { steps = 1; wait = longer e.watch.wait; next = later now (longer e.watch.wait) } }

abbrev pub with_trial_end : ℕ → Option Trial → Estimate → Estimate
with_trial_end now None e = e
with_trial_end now (Some trial) e = if nat_le 800000 (e.watch.newest - trial.begun.0) then after_trial now trial.to e else e

-- without a queue that is being emptied no series of falls goes on
abbrev pub rested : Watch → Estimate → Estimate
rested w e = record e { watch = w; falls = if w.draining then e.falls else None }

abbrev pub after_rest : (now standing : ℕ) → Estimate → Estimate
after_rest now standing e = with_trial_end now e.trial (rested (rest_watch standing (is_some e.trial) e.watch) e)

-- ---- after a silence

-- at least half of the rate from before
abbrev pub after_return : ℕ → Estimate → Estimate
after_return now e =
    if nat_lt 0 e.watch.held then record e { rate = raised (e.watch.held / 2) e.rate; watch = record e.watch { held = 0; next = now } } else e

-- ---- a longer way

abbrev pub falls_noted : (now standing : ℕ) → Falls → Falls
falls_noted now standing f = record f { steady = noted_at now standing f.steady }

-- the queueing delay is steady, and few more packets are lost than before
abbrev pub is_longer : (now lost follows : ℕ) → Falls → Bool
is_longer now lost follows f = nat_le follows now && is_steady f.steady && nat_le lost (min (f.lost + 20) end_of_time)

abbrev pub way_watch : ℕ → Watch → Watch
way_watch now w = record w { next = now; draining = false; follows = later now 10000000 }

-- at least half of the rate from before
abbrev pub with_way : ℕ → Falls → Estimate → Estimate
with_way now f e =
    if is_longer now (usual_of e.losses) e.watch.follows f
    then record e { delays = followed e.delays; rate = raised (f.rate / 2) e.rate; watch = way_watch now e.watch; falls = None }
    else record e { falls = Some f }

abbrev pub way_by : (now standing : ℕ) → Option Falls → Estimate → Estimate
way_by now standing None e = e
way_by now standing (Some f) e = with_way now (falls_noted now standing f) e

abbrev pub after_way : (now standing : ℕ) → Estimate → Estimate
after_way now standing e = way_by now standing e.falls e

-- ---- feedback

-- whether the path is over, once too many were lost or not
abbrev pub judged_by : (now round_trip standing : ℕ) → Bool → Estimate → Estimate
judged_by now round_trip standing many e =
    if many || is_over standing (is_some e.trial) e.watch.usual then (if nat_le e.watch.hold now then after_fall now round_trip standing e else e)
    else after_return now (after_rest now standing e)

abbrev pub judged : (now round_trip standing : ℕ) → Estimate → Estimate
judged now round_trip standing e =
    judged_by now round_trip standing (are_many now e.losses)
    (record e { watch = watched standing e.trial e.watch; losses = after_period now e.losses })

abbrev pub after_noted : (now round_trip : ℕ) → Estimate → Estimate
after_noted now round_trip e = after_way now (standing_in e.delays) (judged now round_trip (standing_in e.delays) e)

abbrev pub after_feedback : (now round_trip : ℕ) → List PacketFate → Estimate → Estimate
after_feedback now round_trip fates e = after_noted now round_trip (after_fates fates e)

-- ---- time

abbrev pub or_now : ℕ → Option ℕ → Option ℕ
or_now now None = Some now
or_now now (Some since) = Some since

-- a packet leaves: feedback is waited for
abbrev pub after_sent : ℕ → Estimate → Estimate
after_sent now e = record e { watch = record e.watch { waits = or_now now e.watch.waits } }

abbrev pub silent_watch : (now rate : ℕ) → Watch → Watch
silent_watch now rate w = record w { waits = None; next = later now 1000000; held = max w.held rate }

abbrev pub after_silence : ℕ → Estimate → Estimate
after_silence now e =
    if is_silent now e.watch.waits then record e { rate = halved e.rate; trial = None; watch = silent_watch now e.rate.estimate e.watch } else e

abbrev pub begins_trial : (now wanted : ℕ) → Estimate → Bool
begins_trial now wanted e = not (is_some e.trial) && not e.watch.draining && nat_le e.watch.next now && nat_lt e.rate.estimate wanted

abbrev pub trial_of : (now from to : ℕ) → Trial
trial_of now from to = record { begun = record { 0 = now }; from = min from to; to = to }

abbrev pub with_trial : (now sending to : ℕ) → Estimate → Estimate
with_trial now sending to e = record e { trial = Some (trial_of now sending to); watch = record e.watch { least = end_of_time } }

abbrev pub with_trial_if : (now sending wanted : ℕ) → Estimate → Estimate
with_trial_if now sending wanted e =
    if begins_trial now wanted e then with_trial now sending (min wanted (min (e.rate.estimate * 2) end_of_time)) e else e

abbrev pub after_tick : (now sending wanted : ℕ) → Estimate → Estimate
after_tick now sending wanted e = with_trial_if now sending wanted (after_silence now e)

-- ---- what is sent

abbrev pub less_lost : (rate lost : ℕ) → ℕ
less_lost rate lost = rate * (1000 - min lost 500) / 1000

abbrev pub carried : Estimate → ℕ
carried e = less_lost e.rate.estimate (usual_of e.losses)

abbrev pub pace_by : ℕ → Option Trial → Estimate → ℕ
pace_by now None e = if e.watch.draining then e.rate.estimate - e.rate.estimate / 4 else e.rate.estimate
pace_by now (Some trial) e = max e.rate.estimate (trial_rate_at now trial.begun.0 trial.from trial.to)

abbrev pub pace_of : ℕ → Estimate → ℕ
pace_of now e = pace_by now e.trial e
