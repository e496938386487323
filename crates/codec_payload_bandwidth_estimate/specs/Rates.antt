-- The rate that a path is taken to carry, and a trial. Rates are in bits per second, times in microseconds.
use Rattle.std.specs.Prelude.{ℕ, ◌+◌, ◌-◌, ◌*◌, ◌/◌, ◌≤◌, min, max, List, [], ◌∷◌}

pub record Rate : Type 0 where
  pub least : ℕ
  pub most : ℕ
  pub estimate : ℕ

abbrev pub new_rate : (start least most : ℕ) → Rate
new_rate start least most = record { least = least; most = max most least; estimate = min (max start least) (max most least) }

abbrev pub raised : ℕ → Rate → Rate
raised to r = record r { estimate = min (max r.estimate to) r.most }

-- down to what was found, at most to a quarter
abbrev pub fallen : ℕ → Rate → Rate
fallen found r = record r { estimate = max (min (max found (r.estimate / 4)) r.estimate) r.least }

-- up to what was found, at most to the rate of the trial
abbrev pub settled : (found to : ℕ) → Rate → Rate
settled found to r = record r { estimate = min (max (min found to) r.estimate) r.most }

abbrev pub halved : Rate → Rate
halved r = record r { estimate = max (r.estimate / 2) r.least }

-- from `from` to `to` in 500 ms
abbrev pub trial_rate_at : (now begun from to : ℕ) → ℕ
trial_rate_at now begun from to = from + (to - from) * min (now - begun) 500000 / 500000

-- ---- theorems

pub data Call : Type 0 where
  raise : (to : ℕ) → Call
  fall : (found : ℕ) → Call
  settle : (found to : ℕ) → Call
  halve : Call

abbrev pub after_call : Call → Rate → Rate
after_call (raise to) r = raised to r
after_call (fall found) r = fallen found r
after_call (settle found to) r = settled found to r
after_call halve r = halved r

-- after these calls, the latest first
abbrev pub after_calls : List Call → Rate → Rate
after_calls [] r = r
after_calls (call ∷ before) r = after_call call (after_calls before r)

-- whatever is called, the rate is within the bounds with which it began
abbrev pub StaysWithin : Type 0
StaysWithin =
    (start least most : ℕ) (calls : List Call) → least ≤ most
    → (least ≤ (after_calls calls (new_rate start least most)).estimate) × ((after_calls calls (new_rate start least most)).estimate ≤ most)

-- no call is a trial's
abbrev pub HasNoTrial : List Call → Type 0
HasNoTrial [] = Unit {0}
HasNoTrial (raise to ∷ before) = ⊥
HasNoTrial (fall found ∷ before) = HasNoTrial before
HasNoTrial (settle found to ∷ before) = ⊥
HasNoTrial (halve ∷ before) = HasNoTrial before

-- without a trial the rate does not rise
abbrev pub RisesByTrials : Type 0
RisesByTrials = (r : Rate) (calls : List Call) → r.least ≤ r.estimate → HasNoTrial calls → (after_calls calls r).estimate ≤ r.estimate

-- the rate of a trial does not fall
abbrev pub TrialAscends : Type 0
TrialAscends = (now later begun from to : ℕ) → now ≤ later → trial_rate_at now begun from to ≤ trial_rate_at later begun from to
