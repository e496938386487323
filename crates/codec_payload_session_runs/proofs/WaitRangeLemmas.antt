-- The ranges in which the waits of a stream follow the round trip, or how late missing packets arrive.
use Rattle.std.proofs.Common.{◌≡◌, ◌≤◌, ◌∙◌, inl, inr, refl, ap, subst, ℕ, max, min, if◌then◌else◌, Bool, true, false, List, [], ◌∷◌, Option, Some, None, Result, Ok, Err, arith}
use Rattle.std.specs.Global.{Vec}
use Rattle.std.specs.declared.alloc.AllocError.{AllocError}
use Rattle.codec_payload_feedback_wait.specs.Ages.{are_enough, greatest_of}
use Rattle.codec_payload_feedback_wait.specs.Waits.{Wait, after_missing, is_new, limit_of, with_a_quarter}
use Rattle.codec_payload_feedback_wait.specs.declared.adaptive_wait.AdaptiveWaitSettings.{AdaptiveWaitSettings}
use Rattle.codec_payload_feedback_requests.specs.NackSchedule.{sure_answer_time}
use Rattle.codec_payload_receiver.specs.Sessions.{Session as Receiver}
use Rattle.codec_payload_session_requests.specs.Late.{arrived_after, late_after, limit_by, missing_after}
use Rattle.codec_payload_session_requests.specs.Requests.{Asking, Asks, answered_if, asked_by, asked_when, heard_by, reported_by, wait_by, wait_for}
use Rattle.codec_payload_session_requests.specs.declared.requests.WaitRange.{WaitRange}
use Rattle.codec_payload_session_runs.specs.Lives.{FollowedWaits, IsInAge, IsInRange, IsInTrip, age_range, trip_range}

abbrev pub IsInRangeIf : FollowedWaits → Option ℕ → Type 0
IsInRangeIf w None = Unit {0}
IsInRangeIf w (Some wait) = IsInRange w wait

trip_patient : (b : Bool) (range : WaitRange) (wait : ℕ) → (if b then Some (max range.most range.least) else None) ≡ Some wait → IsInTrip (Some range) wait
trip_patient true range wait is =
    let e : max range.most range.least ≡ wait = cc in
    (omega (arith, e), omega (arith, e))
trip_patient false range wait is = absurd (cc)

trip_within : (range : Option WaitRange) (answer_time : Option ℕ) (wait : ℕ) → wait_for range answer_time ≡ Some wait → IsInTrip range wait
trip_within None answer_time wait is = absurd (cc)
trip_within (Some range) None wait is = trip_patient range.is_patient range wait is
trip_within (Some range) (Some answer_time) wait is =
    let e : max (min answer_time range.most) range.least ≡ wait = cc in
    (omega (arith, e), omega (arith, e))

pub trip_in : (w : FollowedWaits) (feedback : Option Asking) (o : Option ℕ) → wait_by feedback ≡ o → trip_range feedback ≡ w.by_trip → IsInRangeIf w o
trip_in w feedback None is range = tt
trip_in w None (Some wait) is range = absurd (cc)
trip_in w (Some a) (Some wait) is range = inl (subst (λ (o : Option WaitRange). IsInTrip o wait) range (trip_within a.waits (sure_answer_time a.requests.nack) wait is))

age_floor : (b : Bool) (shortest first age longest : ℕ) → min shortest longest ≤ min (max age (if b then shortest else max shortest first)) longest
age_floor true shortest first age longest = omega arith
age_floor false shortest first age longest = omega arith

pub age_in : (w : FollowedWaits) (late : Option Wait) (o : Option ℕ) → limit_by late ≡ o → age_range late ≡ w.by_age → IsInRangeIf w o
age_in w late None is range = tt
age_in w None (Some wait) is range = absurd (cc)
age_in w (Some own) (Some wait) is range =
    let e : limit_of own ≡ wait = cc in
    let least : min own.settings.shortest own.settings.longest ≤ limit_of own =
    age_floor (are_enough own.ages) own.settings.shortest own.settings.first (with_a_quarter (greatest_of own.ages.places)) own.settings.longest in
    let most : limit_of own ≤ own.settings.longest = omega arith in
    inr (subst (λ (o : Option AdaptiveWaitSettings). IsInAge o wait) range (subst (λ (n : ℕ). IsInAge (Some own.settings) n) e (least, most)))

pub heard_range : (now : ℕ) (number : Option ℕ) (feedback : Option Asking) → trip_range (heard_by now number feedback) ≡ trip_range feedback
heard_range now number None = refl
heard_range now None (Some a) = refl
heard_range now (Some n) (Some a) = refl

pub answered_range : (keyframe : Bool) (feedback : Option Asking) → trip_range (answered_if keyframe feedback) ≡ trip_range feedback
answered_range keyframe None = refl
answered_range keyframe (Some a) = refl

asked_when_range : (pli : Bool) (a : Asking) → (asked_when pli a).waits ≡ a.waits
asked_when_range true a = refl
asked_when_range false a = refl

pub trip_range_told : (round_trip : Option ℕ) (feedback : Option Asking) → trip_range (reported_by round_trip feedback) ≡ trip_range feedback
trip_range_told round_trip None = refl
trip_range_told round_trip (Some a) = refl

pub asked_range : (feedback : Option Asking) → trip_range (asked_by feedback) ≡ trip_range feedback
asked_range None = refl
asked_range (Some a) = asked_when_range a.pli a

pub asks_range : (told : Result (Option (Vec ℕ)) AllocError) (now : ℕ) (heard : Bool) (r : Receiver) (a b : Asking) → Asks now heard r a told b → b.waits ≡ a.waits
asks_range (Ok packet) now heard r a b got = ap (λ (x : Asking). x.waits) got.after
asks_range (Err e) now heard r a b (inl same) = ap (λ (x : Asking). x.waits) same
asks_range (Err e) now heard r a b (inr same) = ap (λ (x : Asking). x.waits) same

missing_bounds : (now : ℕ) (ns : List ℕ) (own : Wait) → (missing_after now ns own).settings ≡ own.settings
missing_bounds now [] own = refl
missing_bounds now (n ∷ ns) own = missing_bounds now ns (after_missing now n own) ∙ one_bounds (is_new own.highest n) refl
  where
    one_bounds : (b : Bool) → is_new own.highest n ≡ b → (after_missing now n own).settings ≡ own.settings
    one_bounds true is = rw is refl
    one_bounds false is = rw is refl

arrived_bounds : (now : ℕ) (number : Option ℕ) (own : Wait) → (arrived_after now number own).settings ≡ own.settings
arrived_bounds now None own = refl
arrived_bounds now (Some number) own = refl

pub late_range : (now : ℕ) (number : Option ℕ) (missing : List ℕ) (late : Option Wait) → age_range (late_after now number missing late) ≡ age_range late
late_range now number missing None = refl
late_range now number missing (Some own) =
    ap (λ (bounds : AdaptiveWaitSettings). Some bounds) (missing_bounds now missing (arrived_after now number own) ∙ arrived_bounds now number own)
