-- Requests for keyframes are spaced: by induction on the calls.
use Rattle.std.proofs.Common.{◌≡◌, ◌∙◌, ℕ, ◌≤◌, ◌&&◌, max, Bool, true, false, cond, List, [], ◌∷◌, Option, Some, refl, sym, ap, arith, nat_le}
use Rattle.std.proofs.lemmas.Bool.Decides.{nat_tests}
use Rattle.codec_payload_feedback_requests.specs.declared.keyframe.KeyframeRequests.{KeyframeRequests}
use Rattle.codec_payload_feedback_requests.specs.KeyframeRequests.{AreApart, Call, Sent, Spacing, is_due, is_wanted, may_follow, requests_after, sent_by, set_wanted, take_due, take_due_after}
use Rattle.codec_payload_feedback_requests.specs.Requests.{has_come, later}
use Rattle.codec_payload_feedback_requests.proofs.MomentLemmas.{come_later}

-- when the next request may be sent
abbrev pub next_after : List Sent → Option ℕ
next_after [] = Some 0
next_after (last ∷ before) = later last.at last.pause

abbrev pub requests_with : ℕ → Bool → List Sent → KeyframeRequests
requests_with interval wanted sent = record { interval = interval; wanted = wanted; next = next_after sent }

abbrev pub sent_now : ℕ → ℕ → Sent
sent_now now pause = record { at = now; pause = pause }

requested : (interval now : ℕ) (wanted : Bool) (sent : List Sent) (r : KeyframeRequests) (b : Bool) → r ≡ requests_with interval wanted sent
    → cond b (record r { next = later now r.interval }) r ≡ requests_with interval wanted (cond b (sent_now now interval ∷ sent) sent)
requested interval now wanted sent r true is = ap (λ (x : KeyframeRequests). record x { next = later now x.interval }) is
requested interval now wanted sent r false is = is

paused : (interval now pause : ℕ) (wanted : Bool) (sent : List Sent) (r : KeyframeRequests) (b : Bool) → r ≡ requests_with interval wanted sent
    → cond b (record r { next = later now (max r.interval pause) }) r ≡ requests_with interval wanted (cond b (sent_now now (max interval pause) ∷ sent) sent)
paused interval now pause wanted sent r true is = ap (λ (x : KeyframeRequests). record x { next = later now (max x.interval pause) }) is
paused interval now pause wanted sent r false is = is

-- the state is what the calls say
state_is : (interval : ℕ) (calls : List Call) → requests_after interval calls ≡ requests_with interval (is_wanted calls) (sent_by interval calls)
state_is interval [] = refl
state_is interval (set_wanted wanted ∷ before) = ap (λ (x : KeyframeRequests). record x { wanted = wanted }) (state_is interval before)
state_is interval (take_due now ∷ before) =
    requested interval now (is_wanted before) (sent_by interval before) (requests_after interval before) (is_due now (requests_after interval before)) (state_is interval before)
state_is interval (take_due_after now pause ∷ before) =
    paused interval now pause (is_wanted before) (sent_by interval before) (requests_after interval before) (is_due now (requests_after interval before))
    (state_is interval before)

follows_is : (now : ℕ) (wanted : Bool) (sent : List Sent) → (wanted && has_come (next_after sent) now) ≡ (wanted && may_follow sent now)
follows_is now wanted [] = let always : nat_le 0 now ≡ true = grind (arith, nat_tests) in ap (λ (b : Bool). wanted && b) always
follows_is now wanted (last ∷ before) = refl

due_is : (interval : ℕ) (calls : List Call) (now : ℕ) → is_due now (requests_after interval calls) ≡ (is_wanted calls && may_follow (sent_by interval calls) now)
due_is interval calls now = ap (is_due now) (state_is interval calls) ∙ follows_is now (is_wanted calls) (sent_by interval calls)

right_of : (a b : Bool) → (a && b) ≡ true → b ≡ true
right_of true b is = is
right_of false b is = cc

-- each pause is at least the interval
abbrev pub ArePaused : ℕ → List Sent → Type 0
ArePaused interval [] = Unit {0}
ArePaused interval (last ∷ before) = (interval ≤ last.pause) × ArePaused interval before

paused_by : (interval : ℕ) (now : Sent) (sent : List Sent) (b : Bool) → interval ≤ now.pause → ArePaused interval sent → ArePaused interval (cond b (now ∷ sent) sent)
paused_by interval now sent true long are = (long, are)
paused_by interval now sent false long are = are

are_paused : (interval : ℕ) (calls : List Call) → ArePaused interval (sent_by interval calls)
are_paused interval [] = tt
are_paused interval (set_wanted wanted ∷ before) = are_paused interval before
are_paused interval (take_due now ∷ before) =
    paused_by interval (sent_now now interval) (sent_by interval before) (is_due now (requests_after interval before)) (omega arith) (are_paused interval before)
are_paused interval (take_due_after now pause ∷ before) =
    paused_by interval (sent_now now (max interval pause)) (sent_by interval before) (is_due now (requests_after interval before)) (omega arith) (are_paused interval before)

one_more : (interval : ℕ) (now : Sent) (sent : List Sent) → may_follow sent now.at ≡ true → ArePaused interval sent → AreApart interval sent
    → AreApart interval (now ∷ sent)
one_more interval now [] follows paused apart = tt
one_more interval now (last ∷ before) follows (long, paused) apart =
    let after = come_later last.at last.pause now.at follows in (omega (arith, after, long), after, apart)

apart_by : (interval : ℕ) (now : Sent) (sent : List Sent) (b : Bool) → (b ≡ true → may_follow sent now.at ≡ true) → ArePaused interval sent → AreApart interval sent
    → AreApart interval (cond b (now ∷ sent) sent)
apart_by interval now sent true follows paused apart = one_more interval now sent (follows refl) paused apart
apart_by interval now sent false follows paused apart = apart

follows_if : (interval : ℕ) (calls : List Call) (now : ℕ) → is_due now (requests_after interval calls) ≡ true → may_follow (sent_by interval calls) now ≡ true
follows_if interval calls now due = right_of (is_wanted calls) (may_follow (sent_by interval calls) now) (sym (due_is interval calls now) ∙ due)

are_apart : (interval : ℕ) (calls : List Call) → AreApart interval (sent_by interval calls)
are_apart interval [] = tt
are_apart interval (set_wanted wanted ∷ before) = are_apart interval before
are_apart interval (take_due now ∷ before) =
    apart_by interval (sent_now now interval) (sent_by interval before) (is_due now (requests_after interval before))
    (follows_if interval before now) (are_paused interval before) (are_apart interval before)
are_apart interval (take_due_after now pause ∷ before) =
    apart_by interval (sent_now now (max interval pause)) (sent_by interval before) (is_due now (requests_after interval before))
    (follows_if interval before now) (are_paused interval before) (are_apart interval before)

pub spacing : Spacing
spacing interval calls = (are_apart interval calls, due_is interval calls)
