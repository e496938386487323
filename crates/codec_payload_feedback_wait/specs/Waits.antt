-- A limit of waiting that follows how late missing packets arrive.
use Rattle.std.specs.Prelude.{ℕ, ◌+◌, ◌-◌, ◌/◌, ◌^◌, ◌<◌, ◌≤◌, min, max, nat_lt, if◌then◌else◌, Bool, true, All, Option, Some, None}
use Rattle.codec_payload_feedback_wait.specs.declared.adaptive_wait.AdaptiveWaitSettings.{AdaptiveWaitSettings}
use Rattle.codec_payload_feedback_wait.specs.Ages.{Ages, ages_after_losses, ages_with, are_enough, greatest_of, no_ages}
use Rattle.codec_payload_feedback_wait.specs.Gaps.{Followed, gap_with, lost_in, no_gaps, since_of, without_lost, without_place}

pub record Wait : Type 0 where
  pub settings : AdaptiveWaitSettings
  pub gaps : Followed
  pub ages : Ages
  pub highest : Option ℕ

abbrev pub new_wait : AdaptiveWaitSettings → Wait
new_wait settings = record { settings = settings; gaps = no_gaps; ages = no_ages; highest = None }

-- each packet that is missing for too long is removed, and counts as one that arrived at once
abbrev pub after_time : ℕ → Wait → Wait
after_time now w =
    record w {
      gaps = record w.gaps { places = without_lost now w.settings.lost_after w.gaps.places };
      ages = ages_after_losses (lost_in now w.settings.lost_after w.gaps.places) w.ages;
    }

abbrev pub is_new : Option ℕ → ℕ → Bool
is_new None number = true
is_new (Some highest) number = nat_lt highest number

-- a number above all before it is missing from now on
abbrev pub follows_gap : ℕ → ℕ → Wait → Wait
follows_gap now number w =
    record w { gaps = gap_with (record { number = number; since = now }) w.gaps; highest = Some number }

abbrev pub after_missing : ℕ → ℕ → Wait → Wait
after_missing now number w = if is_new w.highest number then follows_gap now number (after_time now w) else w

-- the age of a packet that was missing since then
abbrev pub aged : ℕ → Option ℕ → Ages → Ages
aged now None ages = ages
aged now (Some since) ages = ages_with (now - since) ages

abbrev pub arrives : ℕ → ℕ → Wait → Wait
arrives now number w =
    record w {
      gaps = record w.gaps { places = without_place number w.gaps.places };
      ages = aged now (since_of number w.gaps.places) w.ages;
    }

abbrev pub after_arrival : ℕ → ℕ → Wait → Wait
after_arrival now number w = arrives now number (after_time now w)

-- the lowest limit
abbrev pub floor_of : Wait → ℕ
floor_of w = if are_enough w.ages then w.settings.shortest else max w.settings.shortest w.settings.first

-- 5/4 of an age, as far as a clock counts
abbrev pub with_a_quarter : ℕ → ℕ
with_a_quarter age = min (age + age / 4) (2 ^ 64 - 1)

abbrev pub limit_of : Wait → ℕ
limit_of w = min (max (with_a_quarter (greatest_of w.ages.places)) (floor_of w)) w.settings.longest

-- a packet as late as one of those that came is awaited, unless the highest limit is shorter
abbrev pub Covers : Type 0
Covers = (w : Wait) → w.settings.longest < 2 ^ 64 → All (λ age. min age w.settings.longest ≤ limit_of w) w.ages.places
