-- What counts the freezes of a video.
use Rattle.std.specs.Prelude.{ℕ, ◌+◌, ◌-◌, ◌*◌, ◌^◌, ◌%◌, ◌&&◌, min, nat_le, if◌then◌else◌, Bool, false, List, [], ◌∷◌, ◌++◌, length, replicate, take, Option, Some, None}
use Rattle.codec_payload_feedback_freezes.specs.Rule.{durations, frozen_of, total}
use Rattle.codec_payload_feedback_freezes.specs.declared.freezes.FreezeCounts.{FreezeCounts}

-- when the latest frame was shown, the latest 30 durations with zeros behind them, how many there are, and what was counted
pub record Watched : Type 0 where
  pub tick_rate : ℕ
  pub last : Option ℕ
  pub latest : List ℕ
  pub known : ℕ
  pub counts : FreezeCounts

abbrev pub first_of : List ℕ → Option ℕ
first_of [] = None
first_of (time ∷ times) = Some time

-- the counts of these freezes
abbrev pub counts_of : List ℕ → FreezeCounts
counts_of frozen = record { freezes = length frozen % 2 ^ 64; frozen = total frozen % 2 ^ 64 }

-- all of it, after frames that were shown at these times
abbrev pub watched : ℕ → List ℕ → Watched
watched rate times = record {
  tick_rate = rate;
  last = first_of times;
  latest = take 30 (durations times ++ replicate 30 0);
  known = min (length (durations times)) 30;
  counts = counts_of (frozen_of rate (durations times));
}

-- ---- a step

abbrev pub is_frozen : Watched → ℕ → Bool
is_frozen w duration =
    nat_le (3 * total w.latest) (w.known * duration)
    && nat_le (20 * total w.latest + 3 * w.tick_rate * w.known) (20 * w.known * duration)

abbrev pub noted : ℕ → Watched → Watched
noted duration w = record w { latest = duration ∷ take 29 w.latest; known = min (w.known + 1) 30 }

abbrev pub counted : ℕ → FreezeCounts → FreezeCounts
counted duration c = record { freezes = (c.freezes + 1) % 2 ^ 64; frozen = (c.frozen + duration) % 2 ^ 64 }

abbrev pub with_count : ℕ → Watched → Watched
with_count duration w = record w { counts = if is_frozen w duration then counted duration w.counts else w.counts }

abbrev pub after_duration : ℕ → Watched → Watched
after_duration duration w = with_count duration (noted duration w)

abbrev pub after_frame_since : Option ℕ → ℕ → Watched → Watched
after_frame_since None time w = w
after_frame_since (Some before) time w = after_duration (time - before) w

-- a frame is shown at this time
abbrev pub after_frame : ℕ → Watched → Watched
after_frame time w = after_frame_since w.last time (record w { last = Some time })

abbrev pub ends_freeze_since : Option ℕ → ℕ → Watched → Bool
ends_freeze_since None time w = false
ends_freeze_since (Some before) time w = is_frozen (noted (time - before) w) (time - before)

-- the frame before was frozen until this time
abbrev pub ends_freeze : ℕ → Watched → Bool
ends_freeze time w = ends_freeze_since w.last time w
