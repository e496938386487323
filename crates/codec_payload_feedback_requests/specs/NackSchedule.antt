-- Missing numbers, and when each is requested.
use Rattle.std.specs.Prelude.{◌≡◌, ℕ, ◌+◌, ◌*◌, ◌-◌, ◌/◌, ◌%◌, ◌^◌, ◌==◌, ◌&&◌, min, max, nat_lt, nat_le, if◌then◌else◌, Bool, true, false, List, [], ◌∷◌, map, filter, take, Option, Some, None, unwrap_or}
use Rattle.std.specs.Option.{option_map}
use Rattle.codec_payload_feedback_requests.specs.declared.nack.NackSettings.{NackSettings}
use Rattle.codec_payload_feedback_requests.specs.declared.nack.PendingRequest.{PendingRequest}
use Rattle.codec_payload_feedback_requests.specs.Requests.{earlier, has_come, later}
use Rattle.codec_payload_feedback_requests.specs.RoundTrips.{Trip, is_sure, known_trip, no_trip, noted, reported_as as trip_reported, sure_trip}

-- the missing numbers in rising order; the round-trip time
pub record Schedule : Type 0 where
  pub settings : NackSettings
  pub pending : List PendingRequest
  pub trip : Trip

abbrev pub new_schedule : NackSettings → Schedule
new_schedule settings = record { settings = settings; pending = []; trip = no_trip }

-- the 16 bits of an RTP header
abbrev pub low_bits : ℕ → ℕ
low_bits n = n % 65536

abbrev pub numbers_of : List PendingRequest → List ℕ
numbers_of rs = map (λ (r : PendingRequest). r.number) rs

-- ---- which numbers are followed

abbrev pub is_past : Option ℕ → ℕ → Bool
is_past None n = true
is_past (Some last) n = nat_lt last n

-- each number that is above all before it
abbrev pub rising_after : Option ℕ → List ℕ → List ℕ
rising_after last [] = []
rising_after last (n ∷ ns) = if is_past last n then n ∷ rising_after (Some n) ns else rising_after last ns

-- each number is above the one before
abbrev pub are_rising_after : Option ℕ → List ℕ → Bool
are_rising_after last [] = true
are_rising_after last (n ∷ ns) = is_past last n && are_rising_after (Some n) ns

abbrev pub are_rising : List ℕ → Bool
are_rising ns = are_rising_after None ns

-- the numbers that are followed: the lowest missing ones
abbrev pub followed : NackSettings → List ℕ → List ℕ
followed settings missing = take settings.capacity (rising_after None missing)

-- ---- a number is missing from now on, or still

abbrev pub new_request : NackSettings → ℕ → ℕ → PendingRequest
new_request settings now n =
    record { number = n; due = if nat_lt 0 settings.tries then later now settings.first_wait else None; first = 0; tries = 0; gap = 0 }

-- the request of a number, if it is followed
abbrev pub request_of : ℕ → List PendingRequest → Option PendingRequest
request_of n [] = None
request_of n (r ∷ rs) = if r.number == n then Some r else request_of n rs

abbrev pub kept_or_new : NackSettings → ℕ → List PendingRequest → ℕ → PendingRequest
kept_or_new settings now rs n = unwrap_or (request_of n rs) (new_request settings now n)

abbrev pub refreshed_with : NackSettings → ℕ → List ℕ → List PendingRequest → List PendingRequest
refreshed_with settings now ns rs = map (kept_or_new settings now rs) ns

abbrev pub refreshed : ℕ → List ℕ → Schedule → Schedule
refreshed now missing s = record s { pending = refreshed_with s.settings now (followed s.settings missing) s.pending }

-- the requests from a number on
abbrev pub skipped_below : ℕ → List PendingRequest → List PendingRequest
skipped_below n [] = []
skipped_below n (r ∷ rs) = if nat_le n r.number then r ∷ rs else skipped_below n rs

abbrev pub kept_if_first : NackSettings → ℕ → ℕ → List PendingRequest → PendingRequest
kept_if_first settings now n [] = new_request settings now n
kept_if_first settings now n (r ∷ rs) = if r.number == n then r else new_request settings now n

-- ---- requests

abbrev pub is_due : ℕ → PendingRequest → Bool
is_due now r = has_come r.due now

abbrev pub due_in : ℕ → List PendingRequest → List ℕ
due_in now rs = numbers_of (filter (is_due now) rs)

-- the numbers that are to be requested now
abbrev pub due_numbers : ℕ → Schedule → List ℕ
due_numbers now s = due_in now s.pending

-- 9/8 of the round trip and half of the first wait, within the bounds of the settings
abbrev pub retry_for : NackSettings → ℕ → ℕ
retry_for settings round_trip = min (max (round_trip + round_trip / 8 + settings.first_wait / 2) settings.shortest_retry) settings.longest_retry

abbrev pub retry_by : NackSettings → Option ℕ → (is_sure : Bool) → ℕ
retry_by settings None sure = settings.retry
retry_by settings (Some round_trip) sure = if sure then retry_for settings round_trip else max (retry_for settings round_trip) settings.retry

-- how long a number waits between two requests: by the round trip once it is known, by one answer alone at least `retry`
abbrev pub retry_time : NackSettings → Trip → ℕ
retry_time settings trip = retry_by settings (known_trip trip) (is_sure trip)

-- the first wait and all tries, each with the time until the next one: then the last request is answered
abbrev pub answer_time : NackSettings → ℕ → ℕ
answer_time settings retry = min (retry * settings.tries + settings.first_wait) (2 ^ 64 - 1)

-- the longest time between two requests of a number
abbrev pub slowest_of : List PendingRequest → ℕ
slowest_of [] = 0
slowest_of (r ∷ rs) = max r.gap (slowest_of rs)

-- how long a missing number is worth waiting for, once the round trip is sure: by the time between two requests, now or of a number that is
-- followed, since the round trip may have been longer when that was requested
abbrev pub sure_answer_time : Schedule → Option ℕ
sure_answer_time s = option_map (λ round_trip. answer_time s.settings (max (retry_for s.settings round_trip) (slowest_of s.pending))) (sure_trip s.trip)

-- a number after it was requested
abbrev pub tried : ℕ → ℕ → ℕ → PendingRequest → PendingRequest
tried tries retry now r = record r {
  due = if nat_lt (r.tries + 1) tries then later now retry else None;
  first = if r.tries == 0 then now else r.first;
  tries = min (r.tries + 1) (2 ^ 32 - 1);
  gap = max r.gap retry;
}

abbrev pub tried_if_due : ℕ → ℕ → ℕ → PendingRequest → PendingRequest
tried_if_due tries retry now r = if is_due now r then tried tries retry now r else r

abbrev pub tried_in : ℕ → ℕ → ℕ → List PendingRequest → List PendingRequest
tried_in tries retry now rs = map (tried_if_due tries retry now) rs

abbrev pub after_due : ℕ → Schedule → Schedule
after_due now s = record s { pending = tried_in s.settings.tries (retry_time s.settings s.trip) now s.pending }

-- the earliest moment at which a request is due
abbrev pub earliest_of : List PendingRequest → Option ℕ
earliest_of [] = None
earliest_of (r ∷ rs) = earlier r.due (earliest_of rs)

-- the numbers of the requests rise; this is the earliest moment at which one is due, and the longest time between two requests of one
pub record IsOrdered (rs : List PendingRequest) (earliest : Option ℕ) (slowest : ℕ) : Type 0 where
  pub rising : are_rising (numbers_of rs) ≡ true
  pub earliest_is : earliest ≡ earliest_of rs
  pub slowest_is : slowest ≡ slowest_of rs

-- ---- answers

abbrev pub is_request_for : ℕ → PendingRequest → Bool
is_request_for number r = nat_lt 0 r.tries && (low_bits r.number == number)

-- the lowest number with these 16 bits that was requested
abbrev pub answer_of : ℕ → List PendingRequest → Option PendingRequest
answer_of number [] = None
answer_of number (r ∷ rs) = if is_request_for number r then Some r else answer_of number rs

abbrev pub is_some_request : Option PendingRequest → Bool
is_some_request None = false
is_some_request (Some r) = true

abbrev pub requested_by : ℕ → Schedule → Bool
requested_by number s = is_some_request (answer_of number s.pending)

-- the time since the first request
abbrev pub trip_by : Option PendingRequest → ℕ → Schedule → Schedule
trip_by None now s = s
trip_by (Some r) now s = record s { trip = noted (now - r.first) s.trip }

abbrev pub after_answer : ℕ → ℕ → Schedule → Schedule
after_answer now number s = trip_by (answer_of number s.pending) now s

-- reports say this round trip
abbrev pub reported_as : Option ℕ → Schedule → Schedule
reported_as reported s = record s { trip = trip_reported reported s.trip }
