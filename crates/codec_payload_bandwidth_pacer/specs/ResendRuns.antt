-- Runs of calls of a limit of retransmissions. In each list the latest is first.
use Rattle.std.specs.Prelude.{◌≡◌, ℕ, ◌+◌, ◌-◌, ◌*◌, ◌^◌, ◌≤◌, min, max, nat_le, if◌then◌else◌, List, [], ◌∷◌, Result, Ok, Err}
use Rattle.codec_payload_bandwidth_pacer.specs.declared.resends.ResendRefused.{ResendRefused}
use Rattle.codec_payload_bandwidth_pacer.specs.declared.resends.ResendSettings.{ResendSettings}
use Rattle.codec_payload_bandwidth_pacer.specs.Resending.{Limit, after_resend, after_sent, answer_to, half_of, new_limit}

-- a call: a packet is sent for the first time; a packet may be retransmitted, or not
pub data Call : Type 0 where
  sent : (now size : ℕ) → Call
  resend : (now number size round_trip : ℕ) → Call

abbrev pub after_call : Call → Limit → Limit
after_call (sent now size) l = after_sent now size l
after_call (resend now number size round_trip) l = after_resend now number size round_trip l

abbrev pub after_calls : List Call → Limit → Limit
after_calls [] l = l
after_calls (call ∷ before) l = after_call call (after_calls before l)

-- the time: the highest of all calls
abbrev pub time_of : List Call → ℕ
time_of [] = 0
time_of (sent now size ∷ before) = max (time_of before) now
time_of (resend now number size round_trip ∷ before) = max (time_of before) now

-- the bytes that are sent for the first time
abbrev pub sent_in : List Call → ℕ
sent_in [] = 0
sent_in (sent now size ∷ before) = size + sent_in before
sent_in (resend now number size round_trip ∷ before) = sent_in before

-- those from this time on
abbrev pub sent_since : ℕ → List Call → ℕ
sent_since from [] = 0
sent_since from (sent now size ∷ before) = (if nat_le from (max (time_of before) now) then size else 0) + sent_since from before
sent_since from (resend now number size round_trip ∷ before) = sent_since from before

-- a retransmission, and when its round trip is over
pub record Resent : Type 0 where
  pub number : ℕ
  pub size : ℕ
  pub at : ℕ
  pub until : ℕ

abbrev pub resent_of : ℕ → ℕ → ℕ → ℕ → Resent
resent_of at number size round_trip = record { number = number; size = size; at = at; until = min (at + round_trip) (2 ^ 64 - 1) }

abbrev pub with_resent : Result (Unit {0}) ResendRefused → Resent → List Resent → List Resent
with_resent (Ok u) r rs = r ∷ rs
with_resent (Err e) r rs = rs

-- the retransmissions of these calls, where the time of a call is the highest so far
abbrev pub resent_by : List Call → Limit → List Resent
resent_by [] l = []
resent_by (sent now size ∷ before) l = resent_by before l
resent_by (resend now number size round_trip ∷ before) l =
    with_resent (answer_to now number size (after_calls before l)) (resent_of (max (after_calls before l).at now) number size round_trip) (resent_by before l)

abbrev pub resent_bytes : List Resent → ℕ
resent_bytes [] = 0
resent_bytes (r ∷ rs) = r.size + resent_bytes rs

-- The bytes that any calls retransmit are at most the share of the bytes that these calls send, and of those that were sent in the window
-- before them: `earlier` are the calls before
abbrev pub ResendsAreShared : Type 0
ResendsAreShared =
    (settings : ResendSettings) (earlier calls : List Call)
    → resent_bytes (resent_by calls (after_calls earlier (new_limit settings))) * 1000
    ≤ settings.share * (sent_since (time_of earlier + 1 - 2 * half_of settings) earlier + sent_in calls)

-- no earlier retransmission of its number is less than a round trip ago
abbrev pub IsApart : Resent → List Resent → Type 0
IsApart r [] = Unit {0}
IsApart r (before ∷ rs) = (before.number ≡ r.number → before.until ≤ r.at) × IsApart r rs

abbrev pub AreApart : List Resent → Type 0
AreApart [] = Unit {0}
AreApart (r ∷ rs) = IsApart r rs × AreApart rs

-- A number is retransmitted at most once in a round trip
abbrev pub ResendsAreApart : Type 0
ResendsAreApart = (settings : ResendSettings) (calls : List Call) → AreApart (resent_by calls (new_limit settings))
