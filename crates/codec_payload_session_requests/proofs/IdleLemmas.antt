-- Without requests, and with nothing to request, nothing is due.
use Rattle.std.proofs.Common.{◌≡◌, ◌∙◌, refl, ap, sym, subst, ℕ, zero, suc, ◌&&◌, not, List, [], ◌∷◌, Bool, true, false, cond, None, Ok, min, take, length, ◌==◌, arith}
use Rattle.std.proofs.lemmas.Bool.{false≢true}
use Rattle.std.proofs.lemmas.Bool.Decides.{nat_tests}
use Rattle.codec_payload_feedback.specs.Feedback.{Requests, after_feedback, has_any, is_idle, keyframe_is_due, updated}
use Rattle.codec_payload_jitter.specs.Missing.{missing_numbers, missing_of}
use Rattle.codec_payload_feedback_requests.specs.declared.nack.PendingRequest.{PendingRequest}
use Rattle.codec_payload_feedback_requests.specs.NackSchedule.{refreshed_with}
use Rattle.codec_payload_receiver.specs.Sessions.{Session as Receiver}
use Rattle.codec_payload_session_requests.specs.Requests.{is_calm, is_none, Asking, Asks, Sends, refreshed, wants_keyframe}

-- ---- nothing is missing

abbrev no_numbers : List ℕ
no_numbers = []

take_none : (n : ℕ) → take n no_numbers ≡ no_numbers
take_none zero = refl
take_none (suc n) = refl

take_first : (most : ℕ) (xs : List ℕ) → is_none (take (min most 1) xs) ≡ true → take most xs ≡ []
take_first zero xs is = refl
take_first (suc n) [] is = refl
take_first (suc n) (x ∷ xs) is =
    let one : min (suc n) 1 ≡ suc zero = omega arith in
    let some : is_none (take (suc zero) (x ∷ xs)) ≡ true = subst (λ (k : ℕ). is_none (take k (x ∷ xs)) ≡ true) one is in
    absurd (false≢true some)

both_left : (a b : Bool) → (not a && b) ≡ true → a ≡ false
both_left true b is = absurd (false≢true is)
both_left false b is = refl

both_right : (a b : Bool) → (not a && b) ≡ true → b ≡ true
both_right true b is = absurd (false≢true is)
both_right false b is = is

wants_none : (heard wants : Bool) → wants ≡ false → (heard && wants) ≡ false
wants_none true wants is = is
wants_none false wants is = refl

misses_none : (heard : Bool) (r : Receiver) (a : Asking) → is_calm a r ≡ true → missing_numbers r.packets (cond heard a.most 0) ≡ []
misses_none true r a calm = take_first a.most (missing_of r.packets) (both_right (wants_keyframe a r) (is_none (missing_numbers r.packets (min a.most 1))) calm)
misses_none false r a calm = refl

-- ---- nothing is requested

abbrev pub emptied : Requests → Requests
emptied q = record q { nack = record q.nack { pending = [] }; keyframes = record q.keyframes { wanted = false } }

pub updated_none : (now : ℕ) (q : Requests) → updated now [] false q ≡ emptied q
updated_none now q =
    ap (λ (ns : List ℕ). record q { nack = record q.nack { pending = refreshed_with q.nack.settings now ns q.nack.pending }; keyframes = record q.keyframes { wanted = false } })
    (take_none q.nack.settings.capacity)

pub after_none : (now : ℕ) (q : Requests) → after_feedback now (emptied q) ≡ emptied q
after_none now q = refl

-- what the receiver misses is nothing
pub refreshed_none : (now : ℕ) (heard : Bool) (r : Receiver) (a : Asking) → is_calm a r ≡ true → refreshed now heard r a ≡ record a { requests = emptied a.requests }
refreshed_none now heard r a calm =
    ap (λ (ns : List ℕ). record a { requests = updated now ns (heard && wants_keyframe a r) a.requests }) (misses_none heard r a calm)
    ∙ (ap (λ (b : Bool). record a { requests = updated now [] b a.requests })
    (wants_none heard (wants_keyframe a r) (both_left (wants_keyframe a r) (is_none (missing_numbers r.packets (min a.most 1))) calm))
    ∙ ap (λ (q : Requests). record a { requests = q }) (updated_none now a.requests))

empty_list : (ps : List PendingRequest) → (length ps == 0) ≡ true → ps ≡ []
empty_list [] is = refl
empty_list (p ∷ ps) is = absurd (grind (arith, nat_tests))

both_true : (a b : Bool) → (a && not b) ≡ true → (a ≡ true) × (b ≡ false)
both_true true true is = cc
both_true true false is = (refl, refl)
both_true false b is = cc

-- requests that are idle are empty
pub idle_is : (q : Requests) → is_idle q ≡ true → q ≡ emptied q
idle_is q is =
    let both = both_true (length q.nack.pending == 0) q.keyframes.wanted is in
    ap (λ (ps : List PendingRequest). record q { nack = record q.nack { pending = ps } }) (empty_list q.nack.pending both.0)
    ∙ ap (λ (b : Bool). record q { nack = record q.nack { pending = [] }; keyframes = record q.keyframes { wanted = b } }) both.1

-- ---- what was asked for stays

and_true : (b : Bool) → (b && true) ≡ b
and_true true = refl
and_true false = refl

-- without a packet no keyframe was due
pub no_keyframe : (ns : List ℕ) (keyframe : Bool) → has_any ns keyframe ≡ false → keyframe ≡ false
no_keyframe [] keyframe is = is
no_keyframe (n ∷ ns) keyframe is = absurd (cc)

pub asked_stays : (now : ℕ) (c : Asking) (q : Requests) → keyframe_is_due now c.requests ≡ false
    → record c { requests = q; asked = c.asked && not (keyframe_is_due now c.requests) } ≡ record c { requests = q }
asked_stays now c q none =
    ap (λ (due : Bool). record c { requests = q; asked = c.asked && not due }) none ∙ ap (λ (b : Bool). record c { requests = q; asked = b }) (and_true c.asked)

-- without requests nothing is due
pub asks_none : (now : ℕ) (heard : Bool) (r : Receiver) (a : Asking) → is_calm a r ≡ true → a.requests ≡ emptied a.requests → Asks now heard r a (Ok None) a
asks_none now heard r a calm empty =
    subst (λ (x : Asking). Sends now x None a) (sym (refreshed_none now heard r a calm)) (record {
      packet_is = refl;
      after =
          ap (λ (q : Requests). record a { requests = q }) (empty ∙ sym (after_none now a.requests))
          ∙ sym (asked_stays now (record a { requests = emptied a.requests }) (after_feedback now (emptied a.requests)) refl);
    })
