-- The arrivals of the packets of a transport: which numbers arrived when, and which of them a feedback reported.
use Rattle.std.specs.Prelude.{◌≡◌, ◌⊎◌, ℕ, zero, suc, ◌+◌, ◌*◌, ◌-◌, ◌/◌, ◌%◌, ◌<◌, ◌≤◌, ◌==◌, ◌&&◌, nat_lt, nat_le, min, Bool, true, false, List, [], ◌∷◌, ◌++◌, length, take, drop, replicate, slice_set, slice_get, if◌then◌else◌, Option, Some, None, Result, Ok, Err}
use Rattle.codec_payload_feedback_congestion.specs.declared.arrivals.ArrivalLogError.{ArrivalLogError}
use Rattle.codec_payload_feedback_congestion.specs.declared.arrivals.ArrivalLogError.TheVariants as errors

-- start: the 16 bits of the number of the first slot. slots: of each number from there on when it arrived, if it did; the last one
-- did. reported: how many of the slots were reported
pub record Log : Type 0 where
  pub window : ℕ
  pub start : ℕ
  pub slots : List (Option ℕ)
  pub reported : ℕ

abbrev pub new_log : ℕ → Log
new_log window = record { window = window; start = 0; slots = []; reported = 0 }

abbrev pub log_by : ℕ → Result Log ArrivalLogError
log_by window = if nat_le 1 window && nat_le window 32768 then Ok (new_log window) else Err errors.Window

-- how many numbers are between the last slot and this number, modulo 2^16
abbrev pub ahead_of : ℕ → ℕ → ℕ → ℕ
ahead_of start len number = (number + 65536 - (start + len) % 65536) % 65536

-- ---- an arrival

-- the first arrival, or one so far ahead that the window has none of the numbers before it
abbrev pub begun : ℕ → ℕ → Log → Log
begun number time l = record l { start = number; slots = Some time ∷ []; reported = 0 }

-- the numbers between did not arrive so far
abbrev pub added : ℕ → ℕ → Log → Log
added gap time l = record l { slots = l.slots ++ (replicate gap None ++ Some time ∷ []) }

-- the last `window` slots
abbrev pub windowed : Log → Log
windowed l = record l { start = (l.start + (length l.slots - l.window)) % 65536; slots = drop (length l.slots - l.window) l.slots; reported = l.reported - (length l.slots - l.window) }

-- a number that was reported as missing is reported again, and all after it
abbrev pub filled_if : Option (Option ℕ) → ℕ → ℕ → Log → Log
filled_if (Some None) index time l = record l { slots = slice_set l.slots index (Some time); reported = min l.reported index }
filled_if (Some (Some t)) index time l = l
filled_if None index time l = l

abbrev pub arrived_ahead : ℕ → ℕ → ℕ → Log → Log
arrived_ahead gap number time l = if nat_lt gap l.window then windowed (added gap time l) else begun number time l

-- one that is before the window is refused
abbrev pub arrived_late : ℕ → ℕ → Log → Log
arrived_late back time l = if nat_le back (length l.slots) then filled_if (slice_get l.slots (length l.slots - back)) (length l.slots - back) time l else l

abbrev pub arrived_by : ℕ → ℕ → ℕ → Log → Log
arrived_by ahead number time l = if nat_lt ahead 32768 then arrived_ahead ahead number time l else arrived_late (65536 - ahead) time l

-- the number is the one nearest behind or ahead of the last slot with these 16 bits
abbrev pub arrived : ℕ → ℕ → Log → Log
arrived number time l = if length l.slots == 0 then begun number time l else arrived_by (ahead_of l.start (length l.slots) number) number time l

-- ---- reporting

-- what was not reported so far
abbrev pub unreported : Log → List (Option ℕ)
unreported l = drop l.reported l.slots

abbrev pub first_unreported : Log → ℕ
first_unreported l = (l.start + l.reported) % 65536

-- the first n of them were reported
abbrev pub after_reported : ℕ → Log → Log
after_reported n l = record l { reported = l.reported + n }

-- ---- bounds

abbrev pub IsTime : Option ℕ → Type 0
IsTime None = Unit {0}
IsTime (Some t) = t < 4294967296

abbrev pub AreTimes : List (Option ℕ) → Type 0
AreTimes [] = Unit {0}
AreTimes (s ∷ ss) = IsTime s × AreTimes ss

pub record IsLog (l : Log) : Type 0 where
  pub some : 1 ≤ l.window
  pub few : l.window ≤ 32768
  pub within : length l.slots ≤ l.window
  pub reported : l.reported ≤ length l.slots
  pub times : AreTimes l.slots

-- ---- laws

-- the number has a slot with that time, which was not reported
abbrev pub IsUnreported : ℕ → ℕ → Log → Type 0
IsUnreported number time l = (index : ℕ) × (slice_get l.slots index ≡ Some (Some time)) × ((l.start + index) % 65536 ≡ number) × (l.reported ≤ index)

-- an arrival changes nothing, since it is a repetition or before the window; or its number is reported with its time after it
abbrev pub ArrivalsAreReported : Type 0
ArrivalsAreReported = (l : Log) (number time : ℕ) → IsLog l → l.start < 65536 → number < 65536 → (arrived number time l ≡ l) ⊎ IsUnreported number time (arrived number time l)
