-- The round-trip time, by answers and by reports.
use Rattle.std.specs.Prelude.{ℕ, ◌+◌, ◌-◌, ◌*◌, ◌<◌, ◌≤◌, ◌&&◌, nat_lt, nat_le, if◌then◌else◌, Bool, true, List, [], ◌∷◌, take, length, Option, Some, None}
use Rattle.codec_payload_feedback_requests.specs.Requests.{earlier}

-- the latest times from the first request of a number to its first arrival, the latest first; what reports say
pub record Trip : Type 0 where
  pub samples : List ℕ
  pub reported : Option ℕ

abbrev pub no_trip : Trip
no_trip = record { samples = []; reported = None }

-- the latest five samples are kept
abbrev pub noted : ℕ → Trip → Trip
noted sample t = record t { samples = take 5 (sample ∷ t.samples) }

abbrev pub reported_as : Option ℕ → Trip → Trip
reported_as reported t = record t { reported = reported }

-- ---- the median

-- how many samples are at most m
abbrev pub at_most : ℕ → List ℕ → ℕ
at_most m [] = 0
at_most m (x ∷ xs) = if nat_le x m then at_most m xs + 1 else at_most m xs

-- more than half of the samples are at most m
abbrev pub is_most : ℕ → List ℕ → Bool
is_most m xs = nat_lt (length xs - at_most m xs) (at_most m xs)

-- the least of these candidates that more than half of the samples do not exceed
abbrev pub least_most : List ℕ → List ℕ → Option ℕ
least_most [] xs = None
least_most (c ∷ cs) xs = earlier (if is_most c xs then Some c else None) (least_most cs xs)

-- the least sample that more than half of the samples do not exceed: of five the third, of two the greater
abbrev pub median : List ℕ → Option ℕ
median xs = least_most xs xs

-- ---- what is known

abbrev pub reported_or : Option ℕ → Option ℕ → Option ℕ
reported_or None other = other
reported_or (Some reported) other = Some reported

-- what reports say, or else the median of the samples
abbrev pub known_trip : Trip → Option ℕ
known_trip t = reported_or t.reported (median t.samples)

abbrev pub sure_by : Option ℕ → List ℕ → Bool
sure_by None samples = nat_lt 1 (length samples)
sure_by (Some reported) samples = true

-- reports say it, or two answers came: the first answer alone may be a packet that came by itself
abbrev pub is_sure : Trip → Bool
is_sure t = sure_by t.reported t.samples

abbrev pub sure_trip : Trip → Option ℕ
sure_trip t = if is_sure t then known_trip t else None

-- ---- samples within a range

abbrev pub is_within : ℕ → ℕ → ℕ → Bool
is_within a b x = nat_le a x && nat_le x b

-- how many samples are within a..b
abbrev pub count_within : ℕ → ℕ → List ℕ → ℕ
count_within a b [] = 0
count_within a b (x ∷ xs) = if is_within a b x then count_within a b xs + 1 else count_within a b xs

-- it is known, and within a..b
abbrev pub LiesWithin : ℕ → ℕ → Option ℕ → Type 0
LiesWithin a b None = ⊥
LiesWithin a b (Some m) = (a ≤ m) × (m ≤ b)

-- if more than half of the samples lie within a..b, their median does
abbrev pub MedianLiesWithMost : Type 0
MedianLiesWithMost = (a b : ℕ) (samples : List ℕ) → length samples < count_within a b samples * 2 → LiesWithin a b (median samples)
