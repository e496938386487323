-- A number that stays missing is requested in time, poll by poll.
use Rattle.std.proofs.Common.{◌≡◌, ◌∙◌, refl, sym, ap, subst, ℕ, suc, ◌+◌, ◌*◌, ◌^◌, ◌<◌, ◌≤◌, ◌⊎◌, inl, inr, Bool, true, false, cond, List, [], ◌∷◌, Option, Some, None, arith, length, leb, ltb}
use Rattle.std.proofs.Math.Nat.{mul-le-mul_right}
use Rattle.std.proofs.lemmas.Bool.{cases_lt, leb-true, ltb-true}
use Rattle.std.proofs.lemmas.Bool.Decides.{nat_tests}
use Rattle.codec_payload_feedback_requests.specs.declared.nack.NackSettings.{NackSettings}
use Rattle.codec_payload_feedback_requests.specs.declared.nack.PendingRequest.{PendingRequest}
use Rattle.codec_payload_feedback_requests.specs.NackRuns.{Call, Exact, OnTime, Request, answered, begun, followed_since, is_in, next_by, next_of, refresh, report, request_at, requested_at, requests_of, schedule_after, take_due}
use Rattle.codec_payload_feedback_requests.specs.NackSchedule.{Schedule, answer_of, earliest_of, followed, retry_by, trip_by}
use Rattle.codec_payload_feedback_requests.specs.Requests.{has_come, later}
use Rattle.codec_payload_feedback_requests.specs.RoundTrips.{is_sure, known_trip}
use Rattle.codec_payload_answered_runs.specs.Repeats.{AllMiss, AreInTime, ArePolled, IsBy, Poll, RequestsAreRepeated, calls_of, due_by, polled_by, request_by, retry_most}

-- The time between two requests

settings_trip : (o : Option PendingRequest) (now : ℕ) (s : Schedule) → (trip_by o now s).settings ≡ s.settings
settings_trip None now s = refl
settings_trip (Some r) now s = refl

pub settings_stay : (settings : NackSettings) (calls : List Call) → (schedule_after settings calls).settings ≡ settings
settings_stay settings [] = refl
settings_stay settings (refresh now missing ∷ before) = settings_stay settings before
settings_stay settings (take_due now ∷ before) = settings_stay settings before
settings_stay settings (answered now number ∷ before) =
    let s = schedule_after settings before in settings_trip (answer_of number s.pending) now s ∙ settings_stay settings before
settings_stay settings (report round_trip ∷ before) = settings_stay settings before

retry_few : (settings : NackSettings) (o : Option ℕ) (sure : Bool) → retry_by settings o sure ≤ retry_most settings
retry_few settings None sure = omega arith
retry_few settings (Some round_trip) true = omega arith
retry_few settings (Some round_trip) false = omega arith

request_few : (settings : NackSettings) (now : ℕ) (calls : List Call) → (request_at now (schedule_after settings calls)).retry ≤ retry_most settings
request_few settings now calls =
    let s = schedule_after settings calls in
    let same = ap retry_most (settings_stay settings calls) in
    let few = retry_few s.settings (known_trip s.trip) (is_sure s.trip) in
    omega (arith, few, same)

-- Moments

-- a moment, if it is one of 64 bits, is at most n
abbrev pub DueIn : ℕ → Option ℕ → Type 0
DueIn n None = 2 ^ 64 ≤ n
DueIn n (Some d) = d ≤ n

later_in : (now ticks n : ℕ) → now + ticks ≤ n → DueIn n (later now ticks)
later_in now ticks n le = by_test (ltb (now + ticks) (2 ^ 64)) refl
  where
    by_test : (b : Bool) → ltb (now + ticks) (2 ^ 64) ≡ b → DueIn n (cond b (Some (now + ticks)) None)
    by_test true e = le
    by_test false e = let over : 2 ^ 64 ≤ now + ticks = grind (arith, nat_tests, e) in omega (arith, over, le)

-- what comes by then comes at m or earlier, if 64 bits hold m
abbrev pub Within : ℕ → Option ℕ → Type 0
Within m until = (now : ℕ) → IsBy until now → (now ≤ m) ⊎ (2 ^ 64 ≤ m)

earliest_by : (o : Option ℕ) (d : ℕ) → has_come o d ≡ true → (e : ℕ) × (o ≡ Some e) × (e ≤ d)
earliest_by None d come = absurd (cc)
earliest_by (Some e) d come = (e, refl, leb-true e d come)

module _ (exact : Exact) (on_time : OnTime) (settings : NackSettings) (small : settings.tries < 2 ^ 32) (n slack since : ℕ) where
  -- by when the request with this index is due
  abbrev pub due_at : ℕ → ℕ
  due_at m = since + slack + settings.first_wait + m * (retry_most settings + slack)

  -- when the number is requested next
  pub data Next (calls : List Call) (until : Option ℕ) : Type 0 where
    unfollowed : followed_since settings n calls ≡ None → requests_of settings n calls ≡ [] → Within (since + slack) until → Next calls until
    following : (at : ℕ) → followed_since settings n calls ≡ Some at → DueIn (due_at (length (requests_of settings n calls))) (next_of settings at (requests_of settings n calls))
        → Within (due_at (length (requests_of settings n calls)) + slack) until → Next calls until

  -- the number is missing since `since`, and was requested in time
  pub record IsOpen (calls : List Call) (until : Option ℕ) : Type 0 where
    pub in_time : AreInTime (request_by settings slack since) (requests_of settings n calls)
    pub next : length (requests_of settings n calls) < settings.tries → Next calls until

  -- at the beginning
  pub open_first : (calls : List Call) (until : Option ℕ) → followed_since settings n calls ≡ None → requests_of settings n calls ≡ [] → Within (since + slack) until → IsOpen calls until
  open_first calls until none empty within = record {
    in_time = subst (AreInTime (request_by settings slack since)) (sym empty) tt;
    next = λ few. unfollowed none empty within;
  }

  -- if the next poll comes sooner
  pub open_sooner : (calls : List Call) (until sooner : Option ℕ) → ((now : ℕ) → IsBy sooner now → IsBy until now) → IsOpen calls until → IsOpen calls sooner
  open_sooner calls until sooner so stays = record { in_time = stays.in_time; next = λ few. by_next (stays.next few) }
    where
      by_next : Next calls until → Next calls sooner
      by_next (unfollowed none empty within) = unfollowed none empty (λ now is. within now (so now is))
      by_next (following at is due within) = following at is due (λ now is. within now (so now is))

  -- after an answer
  pub open_answered : (now number : ℕ) (calls : List Call) (until : Option ℕ) → IsOpen calls until → IsOpen (answered now number ∷ calls) until
  open_answered now number calls until stays = record { in_time = stays.in_time; next = λ few. by_next (stays.next few) }
    where
      by_next : Next calls until → Next (answered now number ∷ calls) until
      by_next (unfollowed none empty within) = unfollowed none empty within
      by_next (following at is due within) = following at is due within

  -- a number that is due was not requested often enough
  next_few : (at a : ℕ) (sent : List Request) → has_come (next_of settings at sent) a ≡ true → length sent < settings.tries
  next_few at a [] come = by_test (ltb 0 settings.tries) refl come
    where
      by_test : (b : Bool) → ltb 0 settings.tries ≡ b → has_come (cond b (later at settings.first_wait) None) a ≡ true → 0 < settings.tries
      by_test true is come = ltb-true 0 settings.tries is
      by_test false is come = absurd (cc)
  next_few at a (last ∷ before) come = by_test (ltb (length (last ∷ before)) settings.tries) refl come
    where
      by_test : (b : Bool) → ltb (length (last ∷ before)) settings.tries ≡ b → has_come (cond b (later last.at last.retry) None) a ≡ true → length (last ∷ before) < settings.tries
      by_test true is come = ltb-true (length (last ∷ before)) settings.tries is
      by_test false is come = absurd (cc)

  -- the next request after one
  due_again : (at a retry m : ℕ) (sent : List Request) → a + retry ≤ m → length sent + 1 < settings.tries → DueIn m (next_of settings at (record { at = a; retry = retry } ∷ sent))
  due_again at a retry m sent le few = by_test (ltb (suc (length sent)) settings.tries) refl
    where
      by_test : (b : Bool) → ltb (suc (length sent)) settings.tries ≡ b → DueIn m (cond b (later a retry) None)
      by_test true e = later_in a retry m le
      by_test false e = let ge : settings.tries ≤ suc (length sent) = grind (arith, nat_tests, e) in absurd (omega (arith, ge, few))

  -- it is not earlier
  after_again : (at a retry d : ℕ) (sent : List Request) → next_of settings at (record { at = a; retry = retry } ∷ sent) ≡ Some d → a ≤ d
  after_again at a retry d sent e = by_test (ltb (suc (length sent)) settings.tries) (ltb (a + retry) (2 ^ 64)) e
    where
      by_test : (b more : Bool) → cond b (cond more (Some (a + retry)) None) None ≡ Some d → a ≤ d
      by_test true true e = let same : a + retry ≡ d = cc in omega (arith, same)
      by_test true false e = absurd (cc)
      by_test false more e = absurd (cc)

  due_first : (a m : ℕ) → a + settings.first_wait ≤ m → 0 < settings.tries → DueIn m (next_of settings a [])
  due_first a m le some = by_test (ltb 0 settings.tries) refl
    where
      by_test : (b : Bool) → ltb 0 settings.tries ≡ b → DueIn m (cond b (later a settings.first_wait) None)
      by_test true e = later_in a settings.first_wait m le
      by_test false e = let ge : settings.tries ≤ 0 = grind (arith, nat_tests, e) in absurd (omega (arith, ge, some))

  -- the next poll comes in time for a request that is due
  polled_for : (calls : List Call) (a at m : ℕ) → followed_since settings n calls ≡ Some at → DueIn m (next_of settings at (requests_of settings n calls))
      → ((d : ℕ) → next_of settings at (requests_of settings n calls) ≡ Some d → a ≤ d)
      → Within (m + slack) (due_by slack a (earliest_of (schedule_after settings calls).pending))
  polled_for calls a at m is due after now by = by_due (next_of settings at (requests_of settings n calls)) refl
    where
      by_deadline : (d : ℕ) → d ≤ m → a ≤ d → (o : Option ℕ) → ((e : ℕ) × (o ≡ Some e) × (e ≤ d)) → IsBy (due_by slack a o) now → (now ≤ m + slack) ⊎ (2 ^ 64 ≤ m + slack)
      by_deadline d le ge o (e, same, soon) is =
          let until : IsBy (due_by slack a (Some e)) now = subst (λ (x : Option ℕ). IsBy (due_by slack a x) now) same is in
          inl (omega (arith, until, soon, le, ge))

      has_earliest : (d : ℕ) → next_of settings at (requests_of settings n calls) ≡ Some d → has_come (earliest_of (schedule_after settings calls).pending) d ≡ true
      has_earliest d e =
          let come : has_come (next_by settings (followed_since settings n calls) (requests_of settings n calls)) d ≡ true =
          ap (λ (o : Option ℕ). has_come (next_by settings o (requests_of settings n calls)) d) is ∙ (ap (λ (o : Option ℕ). has_come o d) e ∙ here d) in
          let named : is_in n (requested_at settings calls d) ≡ true = exact settings calls n d small ∙ come in
          sym (on_time settings calls d) ∙ some_in (requested_at settings calls d) named
        where
          here : (d : ℕ) → leb d d ≡ true
          here d = grind (arith, nat_tests)

          some_in : (ns : List ℕ) → is_in n ns ≡ true → ltb 0 (length ns) ≡ true
          some_in [] named = absurd (cc)
          some_in (m ∷ ms) named = grind (arith, nat_tests)

      by_due : (o : Option ℕ) → next_of settings at (requests_of settings n calls) ≡ o → (now ≤ m + slack) ⊎ (2 ^ 64 ≤ m + slack)
      by_due None e = let over = subst (DueIn m) e due in inr (omega (arith, over))
      by_due (Some d) e =
          by_deadline d (subst (DueIn m) e due) (after d e) (earliest_of (schedule_after settings calls).pending) (earliest_by (earliest_of (schedule_after settings calls).pending) d (has_earliest d e)) by

  -- a poll
  module _ (calls : List Call) (a : ℕ) (missing : List ℕ) (fits : a < 2 ^ 64) (misses : is_in n (followed settings missing) ≡ true) where
    abbrev pub asked_calls : List Call
    asked_calls = take_due a ∷ refresh a missing ∷ calls

    abbrev sent : List Request
    sent = requests_of settings n calls

    abbrev since_then : ℕ
    since_then = begun a (followed_since settings n calls)

    followed_then : followed_since settings n (refresh a missing ∷ calls) ≡ Some since_then
    followed_then = ap (λ (b : Bool). cond b (Some since_then) None) misses

    sent_then : requests_of settings n (refresh a missing ∷ calls) ≡ sent
    sent_then = ap (λ (b : Bool). cond b sent []) misses

    abbrev named : Bool
    named = is_in n (requested_at settings (refresh a missing ∷ calls) a)

    abbrev request : Request
    request = request_at a (schedule_after settings (refresh a missing ∷ calls))

    named_is : named ≡ has_come (next_of settings since_then sent) a
    named_is =
        exact settings (refresh a missing ∷ calls) n a small
        ∙ (ap (λ (o : Option ℕ). has_come (next_by settings o (requests_of settings n (refresh a missing ∷ calls))) a) followed_then
        ∙ ap (λ (qs : List Request). has_come (next_of settings since_then qs) a) sent_then)

    pub sent_after : requests_of settings n asked_calls ≡ cond named (request ∷ sent) sent
    sent_after = ap (λ (qs : List Request). cond named (request ∷ qs) qs) sent_then

    -- in time for the request that is due
    soon : (until : Option ℕ) → Next calls until → IsBy until a → a ≤ due_at (length sent) + slack
    soon until (unfollowed none empty within) by = elim (within a by) [
      | inl le ↦ omega (arith, le)
      | inr over ↦ omega (arith, over, fits)
    ]
    soon until (following at is due within) by = elim (within a by) [ inl le ↦ le | inr over ↦ omega (arith, over, fits) ]

    -- when it is due
    due_now : (until : Option ℕ) → length sent < settings.tries → Next calls until → IsBy until a → DueIn (due_at (length sent)) (next_of settings since_then sent)
    due_now until few (unfollowed none empty within) by =
        let le : a ≤ since + slack = elim (within a by) [ inl le ↦ le | inr over ↦ omega (arith, over, fits) ] in
        let some : 0 < settings.tries = omega (arith, few) in
        let at : since_then ≡ a = ap (begun a) none in
        let first = due_first a (due_at 0) (omega (arith, le)) some in
        subst (λ (t : ℕ). DueIn (due_at (length sent)) (next_of settings t sent)) (sym at)
        (subst (λ (qs : List Request). DueIn (due_at (length qs)) (next_of settings a qs)) (sym empty) first)
    due_now until few (following at is due within) by =
        subst (λ (t : ℕ). DueIn (due_at (length sent)) (next_of settings t sent)) (sym (ap (begun a) is)) due

    abbrev until_then : Option ℕ
    until_then = due_by slack a (earliest_of (schedule_after settings asked_calls).pending)

    pub open_asked : (until : Option ℕ) → IsOpen calls until → IsBy until a → IsOpen asked_calls until_then
    open_asked until stays by = by_named named refl
      where
        over_next : (d : ℕ) (o : Option ℕ) → o ≡ Some d → has_come o a ≡ false → a ≤ d
        over_next d o e never = let gt : d ≤ a → ⊥ = λ le. clash (leb d a) (grind (arith, nat_tests, le)) (sym (ap (λ (x : Option ℕ). has_come x a) e) ∙ never) in elim (cases_lt d a) [ inl less ↦ absurd (gt (omega (arith, less))) | inr ge ↦ ge ]
          where
            clash : (b : Bool) → b ≡ true → b ≡ false → ⊥
            clash b t f = cc

        by_named : (b : Bool) → named ≡ b → IsOpen asked_calls until_then
        by_named true e =
            let few : length sent < settings.tries = next_few since_then a sent (sym named_is ∙ e) in
            let le = soon until (stays.next few) by in
            let all : requests_of settings n asked_calls ≡ request ∷ sent = sent_after ∙ ap (λ (b : Bool). cond b (request ∷ sent) sent) e in
            let most = request_few settings a (refresh a missing ∷ calls) in
            record {
              in_time = subst (AreInTime (request_by settings slack since)) (sym all) (omega (arith, le), stays.in_time);
              next = λ more.
                  let fewer : length sent + 1 < settings.tries = omega (arith, more, ap length all) in
                  let due : DueIn (due_at (length (request ∷ sent))) (next_of settings since_then (request ∷ sent)) =
                  due_again since_then a request.retry (due_at (length (request ∷ sent))) sent (omega (arith, le, most)) fewer in
                  let here : DueIn (due_at (length (requests_of settings n asked_calls))) (next_of settings since_then (requests_of settings n asked_calls)) =
                  subst (λ (qs : List Request). DueIn (due_at (length qs)) (next_of settings since_then qs)) (sym all) due in
                  following since_then followed_then here
                  (polled_for asked_calls a since_then (due_at (length (requests_of settings n asked_calls))) followed_then here
                  (λ d is. after_again since_then a request.retry d sent (ap (next_of settings since_then) (sym all) ∙ is)));
            }
        by_named false e =
            let all : requests_of settings n asked_calls ≡ sent = sent_after ∙ ap (λ (b : Bool). cond b (request ∷ sent) sent) e in
            record {
              in_time = subst (AreInTime (request_by settings slack since)) (sym all) stays.in_time;
              next = λ more.
                  let few : length sent < settings.tries = omega (arith, more, ap length all) in
                  let here : DueIn (due_at (length (requests_of settings n asked_calls))) (next_of settings since_then (requests_of settings n asked_calls)) =
                  subst (λ (qs : List Request). DueIn (due_at (length qs)) (next_of settings since_then qs)) (sym all) (due_now until few (stays.next few) by) in
                  following since_then followed_then here
                  (polled_for asked_calls a since_then (due_at (length (requests_of settings n asked_calls))) followed_then here
                  (λ d is. over_next d (next_of settings since_then sent) (ap (next_of settings since_then) (sym all) ∙ is) (sym named_is ∙ e)));
            }

-- The theorem

module _ (exact : Exact) (on_time : OnTime) (settings : NackSettings) (small : settings.tries < 2 ^ 32) (n slack since : ℕ) where
  opened : (ps : List Poll) → ArePolled settings slack since ps → AllMiss settings n ps → IsOpen exact on_time settings small n slack since (calls_of ps) (polled_by settings slack since ps)
  opened [] polled miss = open_first exact on_time settings small n slack since [] (Some (since + slack)) refl refl (λ now by. inl by)
  opened (p ∷ ps) polled miss =
      open_asked exact on_time settings small n slack since (calls_of ps) p.at p.missing polled.1 miss.0 (polled_by settings slack since ps) (opened ps polled.2 miss.1) polled.0

  -- if the request with index m is not made yet, its time has not come
  pub late : (calls : List Call) (until : Option ℕ) (m now : ℕ) → m < settings.tries → IsOpen exact on_time settings small n slack since calls until → IsBy until now → request_by settings slack since m < now → now < 2 ^ 64
      → m < length (requests_of settings n calls)
  late calls until m now allowed stays by past fits = elim (cases_lt m (length (requests_of settings n calls))) [
    | inl more ↦ more
    | inr few ↦ absurd (by_next few (stays.next (omega (arith, few, allowed))))
  ]
    where
      by_next : length (requests_of settings n calls) ≤ m → Next exact on_time settings small n slack since calls until → ⊥
      by_next few (unfollowed none empty within) = elim (within now by) [
        | inl le ↦ absurd (omega (arith, le, past))
        | inr over ↦ absurd (omega (arith, over, past, fits))
      ]
      by_next few (following at is due within) =
          let up = times_up (length (requests_of settings n calls)) m (retry_most settings + slack) few in
          elim (within now by) [
            | inl le ↦ absurd (omega (arith, le, past, up))
            | inr over ↦ absurd (omega (arith, over, past, fits, up))
          ]
        where
          times_up : (i j k : ℕ) → i ≤ j → i * k ≤ j * k
          times_up i j k le = mul-le-mul_right k le

pub requests_are_repeated : Exact → OnTime → RequestsAreRepeated
requests_are_repeated exact on_time settings slack since n now m ps small allowed polled by miss past fits =
    let stays = opened exact on_time settings small n slack since ps polled miss in
    (late exact on_time settings small n slack since (calls_of ps) (polled_by settings slack since ps) m now allowed stays by past fits, stays.in_time)
