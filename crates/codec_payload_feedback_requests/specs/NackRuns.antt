-- Whole runs of a schedule: which numbers are requested, and when.
use Rattle.std.specs.Prelude.{◌≡◌, ℕ, ◌+◌, ◌^◌, ◌==◌, ◌<◌, ◌≤◌, ◌||◌, ◌*◌, ◌-◌, nat_lt, if◌then◌else◌, Bool, true, false, List, [], ◌∷◌, take, length, Option, Some, None}
use Rattle.codec_payload_feedback_requests.specs.declared.nack.NackSettings.{NackSettings}
use Rattle.codec_payload_feedback_requests.specs.NackSchedule.{Schedule, after_answer, after_due, answer_of, due_numbers, earliest_of, followed, new_schedule, refreshed, reported_as, retry_time}
use Rattle.codec_payload_feedback_requests.specs.declared.nack.PendingRequest.{PendingRequest}
use Rattle.codec_payload_feedback_requests.specs.RoundTrips.{LiesWithin, count_within, known_trip}
use Rattle.codec_payload_feedback_requests.specs.Requests.{has_come, later}

pub data Call : Type 0 where
  refresh : (now : ℕ) (missing : List ℕ) → Call
  take_due : (now : ℕ) → Call
  answered : (now number : ℕ) → Call
  report : (round_trip : Option ℕ) → Call

abbrev pub after_call : Call → Schedule → Schedule
after_call (refresh now missing) s = refreshed now missing s
after_call (take_due now) s = after_due now s
after_call (answered now number) s = after_answer now number s
after_call (report round_trip) s = reported_as round_trip s

-- the schedule after these calls, the latest first
abbrev pub schedule_after : NackSettings → List Call → Schedule
schedule_after settings [] = new_schedule settings
schedule_after settings (call ∷ before) = after_call call (schedule_after settings before)

-- the numbers that are to be requested at that moment after these calls
abbrev pub requested_at : NackSettings → List Call → ℕ → List ℕ
requested_at settings calls now = due_numbers now (schedule_after settings calls)

abbrev pub is_in : ℕ → List ℕ → Bool
is_in n [] = false
is_in n (m ∷ ms) = (m == n) || is_in n ms

-- the numbers that are missing, by the latest report
abbrev pub missing_at : List Call → List ℕ
missing_at [] = []
missing_at (refresh now missing ∷ before) = missing
missing_at (take_due now ∷ before) = missing_at before
missing_at (answered now number ∷ before) = missing_at before
missing_at (report round_trip ∷ before) = missing_at before

-- since when a number is followed without a break
abbrev pub begun : ℕ → Option ℕ → ℕ
begun now None = now
begun now (Some since) = since

abbrev pub followed_since : NackSettings → ℕ → List Call → Option ℕ
followed_since settings n [] = None
followed_since settings n (refresh now missing ∷ before) =
    if is_in n (followed settings missing) then Some (begun now (followed_since settings n before)) else None
followed_since settings n (take_due now ∷ before) = followed_since settings n before
followed_since settings n (answered now number ∷ before) = followed_since settings n before
followed_since settings n (report round_trip ∷ before) = followed_since settings n before

-- a request, and the retry time at its moment
pub record Request : Type 0 where
  pub at : ℕ
  pub retry : ℕ

abbrev pub request_at : ℕ → Schedule → Request
request_at now s = record { at = now; retry = retry_time s.settings s.trip }

-- the requests of a number since it is followed, the latest first
abbrev pub requests_of : NackSettings → ℕ → List Call → List Request
requests_of settings n [] = []
requests_of settings n (refresh now missing ∷ before) =
    if is_in n (followed settings missing) then requests_of settings n before else []
requests_of settings n (take_due now ∷ before) =
    if is_in n (requested_at settings before now)
    then request_at now (schedule_after settings before) ∷ requests_of settings n before
    else requests_of settings n before
requests_of settings n (answered now number ∷ before) = requests_of settings n before
requests_of settings n (report round_trip ∷ before) = requests_of settings n before

-- when a number is requested next: first after the first wait, then after the retry time, and not once it was requested often enough
abbrev pub next_of : NackSettings → ℕ → List Request → Option ℕ
next_of settings since [] = if nat_lt 0 settings.tries then later since settings.first_wait else None
next_of settings since (last ∷ before) = if nat_lt (length (last ∷ before)) settings.tries then later last.at last.retry else None

abbrev pub next_by : NackSettings → Option ℕ → List Request → Option ℕ
next_by settings None requests = None
next_by settings (Some since) requests = next_of settings since requests

-- each request comes at least the retry time after the one before
abbrev pub AreApart : List Request → Type 0
AreApart [] = Unit {0}
AreApart (now ∷ []) = Unit {0}
AreApart (now ∷ last ∷ before) = (last.at + last.retry ≤ now.at) × AreApart (last ∷ before)

-- a number is requested at a moment exactly if it is followed, has waited, and was not requested `tries` times
abbrev pub Exact : Type 0
Exact =
    (settings : NackSettings) (calls : List Call) (n now : ℕ) → settings.tries < 2 ^ 32
    → is_in n (requested_at settings calls now) ≡ has_come (next_by settings (followed_since settings n calls) (requests_of settings n calls)) now

-- a number is requested only while it is missing
abbrev pub Missing : Type 0
Missing =
    (settings : NackSettings) (calls : List Call) (n now : ℕ)
    → is_in n (requested_at settings calls now) ≡ true → is_in n (missing_at calls) ≡ true

-- a number is requested at most `tries` times, and at most `capacity` numbers are followed
abbrev pub Bounded : Type 0
Bounded =
    (settings : NackSettings) (calls : List Call) (n : ℕ) → settings.tries < 2 ^ 32
    → (length (requests_of settings n calls) ≤ settings.tries) × (length (schedule_after settings calls).pending ≤ settings.capacity)

-- a number is not requested within the retry time after its last request
abbrev pub Apart : Type 0
Apart =
    (settings : NackSettings) (calls : List Call) (n : ℕ) → settings.tries < 2 ^ 32
    → AreApart (requests_of settings n calls)

-- at the deadline and later a number is requested, before it none
abbrev pub OnTime : Type 0
OnTime =
    (settings : NackSettings) (calls : List Call) (now : ℕ)
    → nat_lt 0 (length (requested_at settings calls now)) ≡ has_come (earliest_of (schedule_after settings calls).pending) now

-- ---- the round trip

abbrev pub with_sample : Option PendingRequest → ℕ → List ℕ → List ℕ
with_sample None now samples = samples
with_sample (Some r) now samples = (now - r.first) ∷ samples

-- the times from the first request of a number to its first arrival, the latest first
abbrev pub samples_of : NackSettings → List Call → List ℕ
samples_of settings [] = []
samples_of settings (refresh now missing ∷ before) = samples_of settings before
samples_of settings (take_due now ∷ before) = samples_of settings before
samples_of settings (answered now number ∷ before) = with_sample (answer_of number (schedule_after settings before).pending) now (samples_of settings before)
samples_of settings (report round_trip ∷ before) = samples_of settings before

-- the latest five
abbrev pub latest_of : NackSettings → List Call → List ℕ
latest_of settings calls = take 5 (samples_of settings calls)

-- what reports say, by the latest call that says so
abbrev pub reported_by : List Call → Option ℕ
reported_by [] = None
reported_by (refresh now missing ∷ before) = reported_by before
reported_by (take_due now ∷ before) = reported_by before
reported_by (answered now number ∷ before) = reported_by before
reported_by (report round_trip ∷ before) = round_trip

abbrev pub round_trip_after : NackSettings → List Call → Option ℕ
round_trip_after settings calls = known_trip (schedule_after settings calls).trip

-- while reports say nothing: if more than half of the latest samples lie within a..b, the round trip does
abbrev pub FollowsMost : Type 0
FollowsMost =
    (settings : NackSettings) (calls : List Call) (a b : ℕ) → reported_by calls ≡ None
    → length (latest_of settings calls) < count_within a b (latest_of settings calls) * 2 → LiesWithin a b (round_trip_after settings calls)

-- while reports say one, it is the round trip
abbrev pub Reported : Type 0
Reported = (settings : NackSettings) (calls : List Call) (ticks : ℕ) → reported_by calls ≡ Some ticks → round_trip_after settings calls ≡ Some ticks
