-- Transport-wide feedback: what it reports, how it is read, and how it is spelled. A time is a number of quarters of a millisecond,
-- modulo 2^32: the reference time has 24 bits, in units of 64 ms, which are 256 quarters.
use Rattle.std.specs.Prelude.{◌≡◌, ℕ, zero, suc, ◌+◌, ◌*◌, ◌-◌, ◌/◌, ◌%◌, ◌<◌, ◌≤◌, nat_lt, nat_le, List, [], ◌∷◌, ◌++◌, length, if◌then◌else◌, Option, Some, None, Result, Ok, Err}
use Rattle.std.specs.Int.{w16, w32, from_be_bytes, to_be_bytes}
use Rattle.codec_payload_feedback_congestion.specs.declared.transport.TransportFault.{TransportFault}
use Rattle.codec_payload_feedback_congestion.specs.declared.transport.TransportFault.TheVariants as faults
use Rattle.codec_payload_feedback_congestion.specs.declared.transport.TransportError.{TransportError}
use Rattle.codec_payload_feedback_congestion.specs.declared.transport.TransportError.TheVariants as failures
use Rattle.codec_payload_feedback_congestion.specs.declared.transport.TransportFeedback.{TransportFeedback}
use Rattle.codec_payload_feedback_congestion.specs.Chunks.{◌>>=◌, symbols_at}

-- what a feedback reports: the 16 bits of the first number, the reference time, the number of the feedback, and of each packet from
-- the first on when it arrived, if it did
pub record Reported : Type 0 where
  pub base : ℕ
  pub reference : ℕ
  pub counter : ℕ
  pub statuses : List (Option ℕ)

-- ---- reading

-- the time after a delta
abbrev pub after_small : ℕ → ℕ → ℕ
after_small time delta = (time + delta) % 4294967296

-- a delta of 16 bits in two's complement
abbrev pub after_large : ℕ → ℕ → ℕ
after_large time delta = (time + (if nat_lt delta 32768 then delta else delta + 4294901760)) % 4294967296

-- what the symbol says: when the packet arrived, the time for the next delta, and the bytes after the delta
unfoldable pub status_at : ℕ → ℕ → List ℕ → Result (Option ℕ × ℕ × List ℕ) TransportFault
status_at time zero bytes = Ok (None, time, bytes)
status_at time (suc zero) [] = Err faults.DeltasTooShort
status_at time (suc zero) (delta ∷ bytes) = Ok (Some (after_small time delta), after_small time delta, bytes)
status_at time (suc (suc zero)) [] = Err faults.DeltasTooShort
status_at time (suc (suc zero)) (high ∷ []) = Err faults.DeltasTooShort
status_at time (suc (suc zero)) (high ∷ low ∷ bytes) =
    Ok (Some (after_large time (from_be_bytes w16 (high ∷ low ∷ []))), after_large time (from_be_bytes w16 (high ∷ low ∷ [])), bytes)
status_at time (suc (suc (suc n))) bytes = Err faults.ReservedStatus

abbrev pub with_status : Option ℕ → Result (List (Option ℕ) × List ℕ) TransportFault → Result (List (Option ℕ) × List ℕ) TransportFault
with_status s others = others >>= λ x. Ok (s ∷ x.0, x.1)

-- statuses, and those after them
abbrev pub with_statuses : List (Option ℕ) → Result (List (Option ℕ) × List ℕ) TransportFault → Result (List (Option ℕ) × List ℕ) TransportFault
with_statuses front others = others >>= λ x. Ok (front ++ x.0, x.1)

-- what each symbol says
unfoldable pub statuses_at : ℕ → List ℕ → List ℕ → Result (List (Option ℕ) × List ℕ) TransportFault
statuses_at time [] bytes = Ok ([], bytes)
statuses_at time (s ∷ ss) bytes = status_at time s bytes >>= λ x. with_status x.0 (statuses_at x.1 ss x.2)

abbrev pub reported_by : ℕ → ℕ → List (Option ℕ) → Reported
reported_by base word statuses = record { base = base; reference = 256 * (word / 256); counter = word % 256; statuses = statuses }

-- chunks and deltas after the header; what is after the last delta is not looked at
unfoldable pub body_at : ℕ → ℕ → ℕ → List ℕ → Result Reported TransportFault
body_at base count word bytes = do
  symbols ← symbols_at count bytes
  statuses ← statuses_at (256 * (word / 256)) symbols.0 symbols.1
  Ok (reported_by base word statuses.0)

-- feedback control information
unfoldable pub feedback_at : List ℕ → Result Reported TransportFault
feedback_at (b1 ∷ b0 ∷ c1 ∷ c0 ∷ r2 ∷ r1 ∷ r0 ∷ k ∷ bytes) =
    body_at (from_be_bytes w16 (b1 ∷ b0 ∷ [])) (from_be_bytes w16 (c1 ∷ c0 ∷ [])) (from_be_bytes w32 (r2 ∷ r1 ∷ r0 ∷ k ∷ [])) bytes
feedback_at bytes = Err faults.HeaderTooShort

-- the statuses alone
abbrev pub only_statuses : Result (List (Option ℕ) × List ℕ) TransportFault → Result (List (Option ℕ)) TransportFault
only_statuses (Ok x) = Ok x.0
only_statuses (Err e) = Err e

-- ---- results

-- what a call returned, through a view, is what reading gives, unless memory ran out
abbrev pub Fails : {Y : Type 0} → TransportError → Result Y TransportFault → Type 0
Fails failures.OutOfMemory read = Unit {0}
Fails (failures.Fault f) read = read ≡ Err f

abbrev pub Gives : {X Y : Type 0} → (X → Y) → Result X TransportError → Result Y TransportFault → Type 0
Gives view (Ok x) read = read ≡ Ok (view x)
Gives view (Err e) read = Fails e read

abbrev pub reported_of : TransportFeedback → Reported
reported_of f = record { base = f.base; reference = f.reference; counter = f.counter; statuses = f.statuses.items }

-- ---- writing

-- how far a time is behind another, modulo 2^32
abbrev pub delta_between : ℕ → ℕ → ℕ
delta_between from to = (to + 4294967296 - from) % 4294967296

-- 1 for a delta of 8 bits, 2 for one of 16 bits in two's complement, 3 where none fits
unfoldable pub symbol_between : ℕ → ℕ → ℕ
symbol_between from to =
    if nat_lt (delta_between from to) 256 then 1
    else if nat_lt (delta_between from to) 32768 then 2
    else if nat_le 4294934528 (delta_between from to) then 2
    else 3

unfoldable pub delta_bytes : ℕ → ℕ → List ℕ
delta_bytes from to =
    if nat_lt (delta_between from to) 256 then delta_between from to ∷ []
    else to_be_bytes w16 (delta_between from to % 65536)

-- of one packet: its symbol, its delta, and the time for the next delta
abbrev pub symbol_for : ℕ → Option ℕ → ℕ
symbol_for from None = 0
symbol_for from (Some to) = symbol_between from to

abbrev pub delta_for : ℕ → Option ℕ → List ℕ
delta_for from None = []
delta_for from (Some to) = delta_bytes from to

abbrev pub time_for : ℕ → Option ℕ → ℕ
time_for from None = from
time_for from (Some to) = to

unfoldable pub symbols_of : ℕ → List (Option ℕ) → List ℕ
symbols_of from [] = []
symbols_of from (s ∷ ss) = symbol_for from s ∷ symbols_of (time_for from s) ss

unfoldable pub deltas_of : ℕ → List (Option ℕ) → List ℕ
deltas_of from [] = []
deltas_of from (s ∷ ss) = delta_for from s ++ deltas_of (time_for from s) ss

-- a time has 32 bits, and its delta fits
abbrev pub FitsOne : ℕ → Option ℕ → Type 0
FitsOne from None = Unit {0}
FitsOne from (Some to) = (to < 4294967296) × (symbol_between from to ≤ 2)

unfoldable pub Fit : ℕ → List (Option ℕ) → Type 0
Fit from [] = Unit {0}
Fit from (s ∷ ss) = FitsOne from s × Fit (time_for from s) ss

-- how many of the first k can be reported, up to the first without a delta that fits
unfoldable pub fitting : ℕ → ℕ → List (Option ℕ) → ℕ
fitting zero from ss = 0
fitting (suc k) from [] = 0
fitting (suc k) from (s ∷ ss) = if nat_le (symbol_for from s) 2 then 1 + fitting k (time_for from s) ss else 0

abbrev pub feedback_header : ℕ → ℕ → ℕ → List ℕ
feedback_header base count word = to_be_bytes w16 base ++ to_be_bytes w16 count ++ to_be_bytes w32 word

-- new is old with chunks, deltas and zeros: behind the header they tell these statuses, whatever follows them
pub record IsBody (old new : List ℕ) (reference : ℕ) (ss : List (Option ℕ)) : Type 0 where
  pub body : List ℕ
  pub is : new ≡ old ++ body
  pub whole : length new % 4 ≡ 0
  pub short : 7 * length body ≤ 16 * length ss + 33
  pub says : (base word : ℕ) (more : List ℕ) → 256 * (word / 256) ≡ reference → body_at base (length ss) word (body ++ more) ≡ Ok (reported_by base word ss)

-- the bytes are whole words, and tell this, whatever follows them
pub record Tells (bytes : List ℕ) (t : Reported) : Type 0 where
  pub whole : length bytes % 4 ≡ 0
  pub short : 7 * length bytes ≤ 16 * length t.statuses + 89
  pub says : (more : List ℕ) → feedback_at (bytes ++ more) ≡ Ok t

abbrev pub AppendsReported : List ℕ → List ℕ → Reported → Type 0
AppendsReported old new t = (written : List ℕ) × Tells written t × (new ≡ old ++ written)
