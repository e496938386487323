-- When keyframes are requested.
use Rattle.std.specs.Prelude.{◌≡◌, ℕ, ◌+◌, ◌≤◌, ◌&&◌, max, if◌then◌else◌, Bool, true, false, List, [], ◌∷◌, Option, Some, None}
use Rattle.codec_payload_feedback_requests.specs.declared.keyframe.KeyframeRequests.{KeyframeRequests}
use Rattle.codec_payload_feedback_requests.specs.Requests.{has_come, later}

abbrev pub new_requests : ℕ → KeyframeRequests
new_requests interval = record { interval = interval; wanted = false; next = Some 0 }

-- a request is due
abbrev pub is_due : ℕ → KeyframeRequests → Bool
is_due now r = r.wanted && has_come r.next now

abbrev pub after_request : ℕ → KeyframeRequests → KeyframeRequests
after_request now r = if is_due now r then record r { next = later now r.interval } else r

-- the next request follows after the interval, and after this pause
abbrev pub after_pause : ℕ → ℕ → KeyframeRequests → KeyframeRequests
after_pause now pause r = if is_due now r then record r { next = later now (max r.interval pause) } else r

-- from when on a request is due
abbrev pub deadline_of : KeyframeRequests → Option ℕ
deadline_of r = if r.wanted then r.next else None

-- ---- whole runs

-- a call: whether a keyframe is needed from now on; whether a request is due
pub data Call : Type 0 where
  set_wanted : (wanted : Bool) → Call
  take_due : (now : ℕ) → Call
  take_due_after : (now pause : ℕ) → Call

abbrev pub after_call : Call → KeyframeRequests → KeyframeRequests
after_call (set_wanted wanted) r = record r { wanted = wanted }
after_call (take_due now) r = after_request now r
after_call (take_due_after now pause) r = after_pause now pause r

-- the schedule after these calls, the latest first
abbrev pub requests_after : ℕ → List Call → KeyframeRequests
requests_after interval [] = new_requests interval
requests_after interval (call ∷ before) = after_call call (requests_after interval before)

-- whether a keyframe is needed, by the latest call that says so
abbrev pub is_wanted : List Call → Bool
is_wanted [] = false
is_wanted (set_wanted wanted ∷ before) = wanted
is_wanted (take_due now ∷ before) = is_wanted before
is_wanted (take_due_after now pause ∷ before) = is_wanted before

-- a request, and the pause after it
pub record Sent : Type 0 where
  pub at : ℕ
  pub pause : ℕ

-- the requests that were sent, the latest first
abbrev pub sent_by : ℕ → List Call → List Sent
sent_by interval [] = []
sent_by interval (set_wanted wanted ∷ before) = sent_by interval before
sent_by interval (take_due now ∷ before) =
    if is_due now (requests_after interval before) then record { at = now; pause = interval } ∷ sent_by interval before else sent_by interval before
sent_by interval (take_due_after now pause ∷ before) =
    if is_due now (requests_after interval before) then record { at = now; pause = max interval pause } ∷ sent_by interval before
    else sent_by interval before

-- each request comes at least the interval after the one before, and at least the pause of that one
abbrev pub AreApart : ℕ → List Sent → Type 0
AreApart interval [] = Unit {0}
AreApart interval (now ∷ []) = Unit {0}
AreApart interval (now ∷ last ∷ before) = (last.at + interval ≤ now.at) × (last.at + last.pause ≤ now.at) × AreApart interval (last ∷ before)

-- the first request is due at once; each later one once the pause has passed
abbrev pub may_follow : List Sent → ℕ → Bool
may_follow [] now = true
may_follow (last ∷ before) now = has_come (later last.at last.pause) now

-- two requests are at least the interval apart, and one is due exactly if a keyframe is needed and the pause has passed
abbrev pub Spacing : Type 0
Spacing =
    (interval : ℕ) (calls : List Call)
    → AreApart interval (sent_by interval calls)
    × ((now : ℕ) → is_due now (requests_after interval calls) ≡ (is_wanted calls && may_follow (sent_by interval calls) now))
