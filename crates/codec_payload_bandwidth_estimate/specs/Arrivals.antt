-- The rate at which packets arrive. Times are in microseconds, rates in bits per second.
use Rattle.std.specs.Prelude.{◌≡◌, ℕ, ◌+◌, ◌-◌, ◌*◌, ◌/◌, ◌≤◌, ◌&&◌, not, max, nat_lt, if◌then◌else◌, Bool, true, false, List, [], ◌∷◌, take, replicate, Option, Some, None}
use Rattle.codec_payload_bandwidth_estimate.specs.declared.arrivals.Arrival.{Arrival}
use Rattle.codec_payload_bandwidth_estimate.specs.declared.arrivals.Span.{Span}

abbrev pub no_arrivals : List (Option Arrival)
no_arrivals = replicate 256 None

abbrev pub newest_at : List (Option Arrival) → ℕ
newest_at [] = 0
newest_at (None ∷ rest) = 0
newest_at (Some one ∷ rest) = one.at

abbrev pub after_arrival : (at size : ℕ) → Bool → List (Option Arrival) → List (Option Arrival)
after_arrival at size waited latest = Some (record { at = max (newest_at latest) at; size = size; waited = waited }) ∷ take 255 latest

-- the longest span from one of these packets on: `bytes` arrived after it, and `span` is the one so far
abbrev pub measure_from : (newest bytes : ℕ) → Span → Bool → List (Option Arrival) → Span
measure_from newest bytes span busy [] = span
measure_from newest bytes span busy (None ∷ rest) = span
measure_from newest bytes span busy (Some one ∷ rest) =
    if nat_lt 250000 (newest - one.at) then span
    else (if busy && not one.waited then span
    else measure_from newest (bytes + one.size) (record { bytes = bytes; time = newest - one.at }) busy rest)

abbrev pub measure_of : Bool → List (Option Arrival) → Span
measure_of busy latest = measure_from (newest_at latest) 0 (record { bytes = 0; time = 0 }) busy latest

abbrev pub rate_by : Span → Option ℕ
rate_by span = if nat_lt span.time 50000 then None else Some (span.bytes * 8000000 / span.time)

abbrev pub rate_of : List (Option Arrival) → Option ℕ
rate_of latest = rate_by (measure_of false latest)

abbrev pub rate_or : Option ℕ → Option ℕ → Option ℕ
rate_or None other = other
rate_or (Some rate) other = Some rate

abbrev pub link_rate_of : List (Option Arrival) → Option ℕ
link_rate_of latest = rate_or (rate_by (measure_of true latest)) (rate_of latest)

-- ---- a link that never idles

-- Each packet arrives when a link of this rate has carried it after the packet before, the latest first
abbrev pub NeverIdles : (rate : ℕ) → List (Option Arrival) → Type 0
NeverIdles rate [] = Unit {0}
NeverIdles rate (None ∷ rest) = Unit {0}
NeverIdles rate (Some one ∷ []) = Unit {0}
NeverIdles rate (Some one ∷ None ∷ rest) = Unit {0}
NeverIdles rate (Some one ∷ Some before ∷ rest) =
    (before.at ≤ one.at) × ((one.at - before.at) * rate ≡ one.size * 8000000) × NeverIdles rate (Some before ∷ rest)

-- its rate is what is measured, exactly
abbrev pub LinkIsMeasured : Type 0
LinkIsMeasured =
    (rate measured : ℕ) (latest : List (Option Arrival)) → NeverIdles rate latest → link_rate_of latest ≡ Some measured → measured ≡ rate
