-- A missing number is requested again and again, by times that the settings say, if its schedule is polled in time.
use Rattle.std.specs.Prelude.{◌≡◌, ℕ, ◌+◌, ◌*◌, ◌^◌, ◌<◌, ◌≤◌, max, true, List, [], ◌∷◌, Option, Some, None, length}
use Rattle.codec_payload_feedback_requests.specs.declared.nack.NackSettings.{NackSettings}
use Rattle.codec_payload_feedback_requests.specs.NackRuns.{Call, Request, is_in, refresh, requests_of, schedule_after, take_due}
use Rattle.codec_payload_feedback_requests.specs.NackSchedule.{earliest_of, followed}

-- a poll of a schedule: the missing numbers are handed to it at this time, and what is due is requested
pub record Poll : Type 0 where
  pub at : ℕ
  pub missing : List ℕ

-- the calls of these polls, the latest first
abbrev pub calls_of : List Poll → List Call
calls_of [] = []
calls_of (p ∷ ps) = take_due p.at ∷ refresh p.at p.missing ∷ calls_of ps

-- Polls in time: each comes at most `slack` after the deadline that the poll before it left

abbrev pub IsBy : Option ℕ → ℕ → Type 0
IsBy None now = Unit {0}
IsBy (Some by) now = now ≤ by

-- by when the next poll comes, after a poll at this time that left this deadline
abbrev pub due_by : (slack now : ℕ) → Option ℕ → Option ℕ
due_by slack now None = None
due_by slack now (Some deadline) = Some (max now deadline + slack)

-- by when it comes after these polls; the number is missing since `since`
abbrev pub polled_by : NackSettings → (slack since : ℕ) → List Poll → Option ℕ
polled_by settings slack since [] = Some (since + slack)
polled_by settings slack since (p ∷ ps) = due_by slack p.at (earliest_of (schedule_after settings (calls_of (p ∷ ps))).pending)

abbrev pub ArePolled : NackSettings → (slack since : ℕ) → List Poll → Type 0
ArePolled settings slack since [] = Unit {0}
ArePolled settings slack since (p ∷ ps) = IsBy (polled_by settings slack since ps) p.at × (p.at < 2 ^ 64) × ArePolled settings slack since ps

-- the number is missing at each of these polls, and among those that are followed
abbrev pub AllMiss : NackSettings → ℕ → List Poll → Type 0
AllMiss settings n [] = Unit {0}
AllMiss settings n (p ∷ ps) = (is_in n (followed settings p.missing) ≡ true) × AllMiss settings n ps

-- the longest time between two requests of a number
abbrev pub retry_most : NackSettings → ℕ
retry_most settings = max settings.retry settings.longest_retry

-- by when the request with this index, from 0, is made
abbrev pub request_by : NackSettings → (slack since m : ℕ) → ℕ
request_by settings slack since m = since + slack + settings.first_wait + slack + m * (retry_most settings + slack)

-- each of these requests, the latest first, is made by its time
abbrev pub AreInTime : (ℕ → ℕ) → List Request → Type 0
AreInTime by [] = Unit {0}
AreInTime by (q ∷ qs) = (q.at ≤ by (length qs)) × AreInTime by qs

-- for any settings, any missing numbers and any polls in time: while the number is missing, the request with index m is made by its
-- time, if that has passed, and the settings allow m + 1 tries
abbrev pub RequestsAreRepeated : Type 0
RequestsAreRepeated =
    (settings : NackSettings) (slack since n now m : ℕ) (ps : List Poll) → settings.tries < 2 ^ 32 → m < settings.tries → ArePolled settings slack since ps
    → IsBy (polled_by settings slack since ps) now → AllMiss settings n ps → request_by settings slack since m < now → now < 2 ^ 64
    → (m < length (requests_of settings n (calls_of ps))) × AreInTime (request_by settings slack since) (requests_of settings n (calls_of ps))
