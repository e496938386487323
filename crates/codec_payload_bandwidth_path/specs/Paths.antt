-- The path to one viewer. Times are in microseconds, rates in bits per second.
use Rattle.std.specs.Prelude.{ℕ, ◌+◌, ◌-◌, ◌*◌, ◌/◌, ◌%◌, ◌^◌, max, min, nat_lt, if◌then◌else◌, Bool, true, false, List, [], ◌∷◌, slice_get, Option, Some, None}
use Rattle.codec_payload_bandwidth_estimate.specs.declared.rate.Trial.{Trial}
use Rattle.codec_payload_bandwidth_estimate.specs.Rates.{trial_rate_at}
use Rattle.codec_payload_bandwidth_estimator.specs.Estimates.{Estimate, after_feedback as estimate_after, after_sent as estimate_sent, after_tick, carried, new_estimate, pace_of, standing_in}
use Rattle.codec_payload_bandwidth_estimate.specs.Losses.{usual_of}
use Rattle.codec_payload_bandwidth_path.specs.declared.path.PathStatistics.{PathStatistics}
use Rattle.codec_payload_bandwidth_estimator.specs.declared.estimator.PacketFate.{PacketFate}
use Rattle.codec_payload_bandwidth_layers.specs.Choices.{after_choice as chooser_after, new_chooser, wanted_of}
use Rattle.codec_payload_bandwidth_layers.specs.declared.chooser.LayerChoice.{LayerChoice}
use Rattle.codec_payload_bandwidth_layers.specs.declared.chooser.LayerChooser.{LayerChooser}
use Rattle.codec_payload_bandwidth_pacer.specs.Pacing.{Pacing, after_pop as pacer_after, bytes_in, filled, new_pacing, next_of, with_rate}
use Rattle.codec_payload_bandwidth_pacer.specs.Resending.{Limit, after_sent, new_limit}
use Rattle.codec_payload_bandwidth_pacer.specs.declared.pacer.PacedKind.{PacedKind}
use Rattle.codec_payload_bandwidth_pacer.specs.declared.pacer.PacedKind.TheVariants as kinds
use Rattle.codec_payload_bandwidth_pacer.specs.declared.pacer.PacedPacket.{PacedPacket}
use Rattle.codec_payload_bandwidth_path.specs.Departures.{Departed, fates_of, heard, no_departures, with_departure}
use Rattle.codec_payload_bandwidth_path.specs.declared.path.Leaving.{Leaving}
use Rattle.codec_payload_bandwidth_path.specs.declared.path.PathOrder.{PathOrder}
use Rattle.codec_payload_bandwidth_path.specs.declared.path.PathSettings.{PathSettings}

-- `fill`: what a trial has not filled yet, in bits times 1,000,000
pub record Path : Type 0 where
  pub pacer : Pacing
  pub limit : Limit
  pub chooser : LayerChooser
  pub estimator : Estimate
  pub departures : Departed
  pub fill : ℕ
  pub chosen : ℕ

abbrev pub new_path : ℕ → PathSettings → Path
new_path now s = record {
  pacer = new_pacing s.start s.pacer;
  limit = new_limit s.resends;
  chooser = new_chooser s.layers.pause s.choice;
  estimator = new_estimate now s.start s.least s.most;
  departures = no_departures;
  fill = 0;
  chosen = now;
}

-- ---- what leaves

abbrev pub is_first : PacedKind → Bool
is_first kinds.Audio = true
is_first kinds.Resent = false
is_first kinds.Media = true
is_first kinds.Padding = true

abbrev pub limit_with : (now : ℕ) → PacedPacket → Limit → Limit
limit_with now packet limit = if is_first packet.kind then after_sent now packet.size limit else limit

abbrev pub fill_after : (fill size : ℕ) → ℕ
fill_after fill size = fill - size * 8000000

abbrev pub leaving_by : Option PacedPacket → Path → Option Leaving
leaving_by None p = None
leaving_by (Some packet) p = Some (record { packet = packet; number = p.departures.count % 65536 })

-- the packet that leaves now, with its transport-wide number
abbrev pub leaving_of : ℕ → Path → Option Leaving
leaving_of now p = leaving_by (next_of (filled now p.pacer)) p

abbrev pub with_leaving : ℕ → Option PacedPacket → Path → Path
with_leaving now None p = p
with_leaving now (Some packet) p = record p {
  limit = limit_with now packet p.limit;
  departures = with_departure now packet.size p.departures;
  estimator = estimate_sent now p.estimator;
  fill = fill_after p.fill packet.size;
}

abbrev pub after_pop : ℕ → Path → Path
after_pop now p = with_leaving now (next_of (filled now p.pacer)) (record p { pacer = pacer_after now p.pacer })

-- ---- feedback

-- without a fate the estimate does not change
abbrev pub estimate_by : (now round_trip : ℕ) → List PacketFate → Estimate → Estimate
estimate_by now round_trip [] e = e
estimate_by now round_trip (fate ∷ fates) e = estimate_after now round_trip (fate ∷ fates) e

abbrev pub after_feedback : (now round_trip base : ℕ) → List (Option ℕ) → Path → Path
after_feedback now round_trip base statuses p = record p {
  estimator = estimate_by now round_trip (fates_of base statuses p.departures) p.estimator;
  departures = heard base statuses p.departures;
}

-- ---- a choice

abbrev pub rate_or : Option LayerChoice → ℕ
rate_or None = 0
rate_or (Some choice) = choice.rate

abbrev pub choice_in : ℕ → List LayerChoice → ℕ
choice_in choice choices = rate_or (slice_get choices choice)

abbrev pub least_pace : List LayerChoice → ℕ
least_pace choices = min (choice_in 0 choices + choice_in 0 choices / 4) (2 ^ 64 - 1)

abbrev pub wanted_by : (wanted estimate carries : ℕ) → ℕ
wanted_by wanted estimate carries = min (wanted * estimate / max carries 1) (2 ^ 64 - 1)

-- the chooser after a choice by what the path carries
abbrev pub chooser_at : ℕ → List LayerChoice → Path → LayerChooser
chooser_at now choices p = chooser_after now (carried p.estimator) choices p.chooser

-- a trial for a higher choice begins if one is due: the next one, or the one after it
abbrev pub estimate_at : ℕ → List LayerChoice → Path → Estimate
estimate_at now choices p =
    after_tick now (choice_in (chooser_at now choices p).current choices)
    (wanted_by (wanted_of p.estimator.watch.steps choices (chooser_at now choices p)) p.estimator.rate.estimate (carried p.estimator)) p.estimator

-- what a trial is to fill after the time since the latest choice: at most 6,000 bytes
abbrev pub earned_by : ℕ → Option Trial → Path → ℕ
earned_by now None p = 0
earned_by now (Some trial) p = min (min (p.fill + trial_rate_at now trial.begun.0 trial.from trial.to * (now - p.chosen)) (2 ^ 128 - 1)) (6000 * 8000000)

abbrev pub earned : ℕ → Path → ℕ
earned now p = earned_by now p.estimator.trial p

abbrev pub paced : ℕ → List LayerChoice → Estimate → Path → Path
paced now choices e p = record p { chooser = chooser_at now choices p; estimator = e; pacer = with_rate now (max (pace_of now e) (least_pace choices)) p.pacer }

abbrev pub filled_at : ℕ → Path → Path
filled_at now p = record p { fill = earned now p; chosen = max p.chosen now }

abbrev pub after_choice : ℕ → List LayerChoice → Path → Path
after_choice now choices p = filled_at now (paced now choices (estimate_at now choices p) p)

-- a trial needs padding while nothing waits
abbrev pub padding_of : Path → ℕ
padding_of p = if nat_lt 0 (bytes_in p.pacer.waits) then 0 else min (p.fill / 8000000) 6000

abbrev pub order_by : ℕ → List LayerChoice → Path → PathOrder
order_by now choices p = record {
  choice = (chooser_at now choices p).current;
  fell = nat_lt (chooser_at now choices p).current p.chooser.current;
  rose = nat_lt p.chooser.current (chooser_at now choices p).current;
  padding = padding_of (after_choice now choices p);
}

-- ---- statistics

abbrev pub statistics_of : Path → PathStatistics
statistics_of p = record {
  estimate = p.estimator.rate.estimate;
  carries = carried p.estimator;
  standing = standing_in p.estimator.delays;
  usual_losses = usual_of p.estimator.losses;
  trial = p.estimator.trial;
  is_draining = p.estimator.watch.draining;
}
