-- Runs of a log: packets that come, and reports.
use Rattle.std.specs.Prelude.{◌≡◌, ◌⊎◌, ℕ, ◌+◌, ◌%◌, ◌<◌, List, [], ◌∷◌, Option, Some, None}
use Rattle.codec_payload_feedback_congestion.specs.Arrivals.{Log, after_reported, arrived, first_unreported, new_log, unreported}

-- the packet with this number comes at this time; or a report covers that many numbers
pub data Step : Type 0 where
  came : ℕ → ℕ → Step
  reported : ℕ → Step

abbrev pub after_step : Step → Log → Log
after_step (came number time) l = arrived number time l
after_step (reported n) l = after_reported n l

-- the log after these steps, the latest one first
abbrev pub log_after : ℕ → List Step → Log
log_after window [] = new_log window
log_after window (s ∷ steps) = after_step s (log_after window steps)

-- numbers have 16 bits
abbrev pub AreSteps : List Step → Type 0
AreSteps [] = Unit {0}
AreSteps (came number time ∷ steps) = (number < 65536) × AreSteps steps
AreSteps (reported n ∷ steps) = AreSteps steps

-- a packet with this number came at this time
abbrev pub HasCome : ℕ → ℕ → List Step → Type 0
HasCome number time [] = ⊥
HasCome number time (came n t ∷ steps) = ((n ≡ number) × (t ≡ time)) ⊎ HasCome number time steps
HasCome number time (reported n ∷ steps) = HasCome number time steps

-- of each number from this one on: that it is missing, or a time at which a packet with it came
abbrev pub SayArrivals : ℕ → List (Option ℕ) → List Step → Type 0
SayArrivals number [] steps = Unit {0}
SayArrivals number (None ∷ ss) steps = SayArrivals ((number + 1) % 65536) ss steps
SayArrivals number (Some time ∷ ss) steps = HasCome number time steps × SayArrivals ((number + 1) % 65536) ss steps

-- what is to be reported after any steps says arrivals
abbrev pub ReportsArrivals : Type 0
ReportsArrivals = (window : ℕ) (steps : List Step) → AreSteps steps → SayArrivals (first_unreported (log_after window steps)) (unreported (log_after window steps)) steps
