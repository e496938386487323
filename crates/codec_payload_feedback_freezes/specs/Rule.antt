-- Freezes of a video, by the rule of the W3C (Identifiers for WebRTC's Statistics API, freezeCount and totalFreezesDuration). In each
-- list the latest frame is first.
use Rattle.std.specs.Prelude.{ℕ, ◌+◌, ◌-◌, ◌*◌, ◌≤◌, ◌&&◌, nat_le, if◌then◌else◌, Bool, List, [], ◌∷◌, length, take}

-- how long the frames were shown, from the times at which they were: each until the next one
abbrev pub durations : List ℕ → List ℕ
durations [] = []
durations (time ∷ []) = []
durations (time ∷ before ∷ times) = (time - before) ∷ durations (before ∷ times)

abbrev pub total : List ℕ → ℕ
total [] = 0
total (duration ∷ durations) = duration + total durations

-- A duration is at least three times the average of these, and at least 150 ms above it. The clock has `rate` ticks per second, so
-- 150 ms are 3/20 of the rate
abbrev pub is_freeze : (rate : ℕ) → List ℕ → ℕ → Bool
is_freeze rate averaged duration =
    nat_le (3 * total averaged) (length averaged * duration)
    && nat_le (20 * total averaged + 3 * rate * length averaged) (20 * length averaged * duration)

-- the durations that are freezes: each by the average of the last 30 up to this one
abbrev pub frozen_of : ℕ → List ℕ → List ℕ
frozen_of rate [] = []
frozen_of rate (duration ∷ durations) =
    if is_freeze rate (take 30 (duration ∷ durations)) duration
    then duration ∷ frozen_of rate durations
    else frozen_of rate durations

-- the clock never went back
abbrev pub Rises : List ℕ → Type 0
Rises [] = Unit {0}
Rises (time ∷ []) = Unit {0}
Rises (time ∷ before ∷ times) = (before ≤ time) × Rises (before ∷ times)

-- while the clock never goes back, all freezes together are no longer than the time that it shows
abbrev pub FitsTheTime : Type 0
FitsTheTime = (rate time : ℕ) (times : List ℕ) → Rises (time ∷ times) → total (frozen_of rate (durations (time ∷ times))) ≤ time
