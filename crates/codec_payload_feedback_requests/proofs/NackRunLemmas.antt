-- Whole runs of a schedule: by induction on the calls.
use Rattle.std.proofs.Common.{◌≡◌, ◌∙◌, ℕ, zero, suc, ◌+◌, ◌^◌, ◌-◌, ◌<◌, ◌≤◌, ◌==◌, ◌&&◌, ◌||◌, Bool, true, false, cond, List, [], ◌∷◌, length, filter, take, Option, Some, None, refl, sym, ap, subst, arith, nat_lt, unwrap_or, length-take}
use Rattle.std.proofs.lemmas.List.{length-map}
use Rattle.std.specs.Option.{option_map}
use Rattle.std.proofs.lemmas.Bool.Decides.{nat_tests}
use Rattle.codec_payload_feedback_requests.specs.declared.nack.NackSettings.{NackSettings}
use Rattle.codec_payload_feedback_requests.specs.declared.nack.PendingRequest.{PendingRequest}
use Rattle.codec_payload_feedback_requests.specs.NackSchedule.{Schedule, answer_of, are_rising, are_rising_after, due_in, earliest_of, followed, is_due, is_past, kept_or_new, new_request, numbers_of, refreshed_with, request_of, retry_time, rising_after, tried, tried_if_due, tried_in, trip_by}
use Rattle.codec_payload_feedback_requests.specs.NackRuns.{Apart, AreApart, Bounded, Call, Exact, FollowsMost, Missing, OnTime, Reported, Request, answered, begun, followed_since, is_in, latest_of, missing_at, next_by, next_of, refresh, report, reported_by, requests_of, round_trip_after, samples_of, with_sample, requested_at, schedule_after, take_due}
use Rattle.codec_payload_feedback_requests.specs.Requests.{earlier, has_come, later}
use Rattle.codec_payload_feedback_requests.specs.RoundTrips.{LiesWithin, median, reported_or}
use Rattle.codec_payload_feedback_requests.proofs.MedianLemmas.{median_lies}
use Rattle.codec_payload_feedback_requests.proofs.MomentLemmas.{come_earlier, come_later}
use Rattle.codec_payload_feedback_requests.proofs.SampleLemmas.{front_again}
use Rattle.codec_payload_feedback_requests.proofs.NackLemmas.{followed_rises, kept_number, number_tried, numbers_refreshed, numbers_tried, weaken}

-- ---- facts that stay

settings_trip : (o : Option PendingRequest) (now : ℕ) (s : Schedule) → (trip_by o now s).settings ≡ s.settings
settings_trip None now s = refl
settings_trip (Some r) now s = refl

pending_trip : (o : Option PendingRequest) (now : ℕ) (s : Schedule) → (trip_by o now s).pending ≡ s.pending
pending_trip None now s = refl
pending_trip (Some r) now s = refl

settings_stay : (settings : NackSettings) (calls : List Call) → (schedule_after settings calls).settings ≡ settings
settings_stay settings [] = refl
settings_stay settings (refresh now missing ∷ before) = settings_stay settings before
settings_stay settings (take_due now ∷ before) = settings_stay settings before
settings_stay settings (answered now number ∷ before) =
    let s = schedule_after settings before in settings_trip (answer_of number s.pending) now s ∙ settings_stay settings before
settings_stay settings (report round_trip ∷ before) = settings_stay settings before

none_taken : (k : ℕ) (ns : List ℕ) → ns ≡ [] → take k ns ≡ ns
none_taken zero [] is = refl
none_taken (suc k) [] is = refl
none_taken k (n ∷ ns) is = cc

-- the table has the numbers that are followed
numbers_are : (settings : NackSettings) (calls : List Call) → numbers_of (schedule_after settings calls).pending ≡ followed settings (missing_at calls)
numbers_are settings [] = sym (none_taken settings.capacity [] refl)
numbers_are settings (refresh now missing ∷ before) =
    let s = schedule_after settings before in
    numbers_refreshed s.settings now (followed s.settings missing) s.pending ∙ ap (λ (x : NackSettings). followed x missing) (settings_stay settings before)
numbers_are settings (take_due now ∷ before) =
    let s = schedule_after settings before in numbers_tried s.settings.tries (retry_time s.settings s.trip) now s.pending ∙ numbers_are settings before
numbers_are settings (answered now number ∷ before) =
    let s = schedule_after settings before in ap numbers_of (pending_trip (answer_of number s.pending) now s) ∙ numbers_are settings before
numbers_are settings (report round_trip ∷ before) = numbers_are settings before

rising : (settings : NackSettings) (calls : List Call) → are_rising (numbers_of (schedule_after settings calls).pending) ≡ true
rising settings calls = ap are_rising (numbers_are settings calls) ∙ followed_rises settings (missing_at calls)

-- ---- only missing numbers

either : (a b c : Bool) → (a || b) ≡ true → (b ≡ true → c ≡ true) → (a || c) ≡ true
either true b c is so = refl
either false b c is so = so is

or_right : (a c : Bool) → c ≡ true → (a || c) ≡ true
or_right true c is = refl
or_right false c is = is

in_rising : (n : ℕ) (last : Option ℕ) (ns : List ℕ) → is_in n (rising_after last ns) ≡ true → is_in n ns ≡ true
in_rising n last [] is = is
in_rising n last (m ∷ ms) is = by_test (is_past last m) is (λ h. in_rising n (Some m) ms h) (λ h. in_rising n last ms h)
  where
    by_test : (b : Bool) → is_in n (cond b (m ∷ rising_after (Some m) ms) (rising_after last ms)) ≡ true
        → (is_in n (rising_after (Some m) ms) ≡ true → is_in n ms ≡ true) → (is_in n (rising_after last ms) ≡ true → is_in n ms ≡ true)
        → ((m == n) || is_in n ms) ≡ true
    by_test true is taken skipped = either (m == n) (is_in n (rising_after (Some m) ms)) (is_in n ms) is taken
    by_test false is taken skipped = or_right (m == n) (is_in n ms) (skipped is)

in_taken : (n k : ℕ) (ns : List ℕ) → is_in n (take k ns) ≡ true → is_in n ns ≡ true
in_taken n zero ns is = cc
in_taken n (suc k) [] is = is
in_taken n (suc k) (m ∷ ms) is = either (m == n) (is_in n (take k ms)) (is_in n ms) is (λ h. in_taken n k ms h)

in_due : (n now : ℕ) (rs : List PendingRequest) → is_in n (due_in now rs) ≡ true → is_in n (numbers_of rs) ≡ true
in_due n now [] is = is
in_due n now (r ∷ rs) is = by_test (is_due now r) is (λ h. in_due n now rs h)
  where
    by_test : (b : Bool) → is_in n (numbers_of (cond b (r ∷ filter (is_due now) rs) (filter (is_due now) rs))) ≡ true
        → (is_in n (due_in now rs) ≡ true → is_in n (numbers_of rs) ≡ true) → ((r.number == n) || is_in n (numbers_of rs)) ≡ true
    by_test true is so = either (r.number == n) (is_in n (due_in now rs)) (is_in n (numbers_of rs)) is so
    by_test false is so = or_right (r.number == n) (is_in n (numbers_of rs)) (so is)

pub missing : Missing
missing settings calls n now is =
    let s = schedule_after settings calls in
    in_rising n None (missing_at calls)
    (in_taken n settings.capacity (rising_after None (missing_at calls))
    (ap (is_in n) (sym (numbers_are settings calls)) ∙ in_due n now s.pending is))

-- ---- the request of a number, if it is followed

abbrev pub comes : Option PendingRequest → ℕ → Bool
comes None now = false
comes (Some r) now = is_due now r

past_other : (k n m : ℕ) → n ≤ k → is_past (Some k) m ≡ true → (m == n) ≡ false
past_other k n m below past = grind (arith, nat_tests)

and_left : (a b : Bool) → (a && b) ≡ true → a ≡ true
and_left true b is = refl
and_left false b is = cc

and_right : (a b : Bool) → (a && b) ≡ true → b ≡ true
and_right true b is = is
and_right false b is = cc

-- no number at or below k is among numbers that rise from k on
not_above : (k n : ℕ) (ns : List ℕ) → n ≤ k → are_rising_after (Some k) ns ≡ true → is_in n ns ≡ false
not_above k n [] below rising = refl
not_above k n (m ∷ ms) below rising =
    let past : is_past (Some k) m ≡ true = and_left (is_past (Some k) m) (are_rising_after (Some m) ms) rising in
    let over : n ≤ m = grind (arith, nat_tests) in
    rw (past_other k n m below past) (not_above m n ms over (and_right (is_past (Some k) m) (are_rising_after (Some m) ms) rising))

false_unless : (b : Bool) → (b ≡ true → false ≡ true) → b ≡ false
false_unless true so = cc (so refl)
false_unless false so = refl

equal_below : (m n : ℕ) → (m == n) ≡ true → n ≤ m
equal_below m n same = grind (arith, nat_tests)

-- a number is due exactly if its request is
due_comes : (n now : ℕ) (rs : List PendingRequest) → are_rising (numbers_of rs) ≡ true → is_in n (due_in now rs) ≡ comes (request_of n rs) now
due_comes n now [] rising = refl
due_comes n now (r ∷ rs) rising =
    by_tests (r.number == n) refl (is_due now r) refl (due_comes n now rs (weaken r.number (numbers_of rs) rising))
    (λ same. false_unless (is_in n (due_in now rs)) (λ h. sym (not_above r.number n (numbers_of rs) (equal_below r.number n same) rising) ∙ in_due n now rs h))
  where
    by_tests : (b : Bool) → (r.number == n) ≡ b → (d : Bool) → is_due now r ≡ d → is_in n (due_in now rs) ≡ comes (request_of n rs) now
        → ((r.number == n) ≡ true → is_in n (due_in now rs) ≡ false)
        → is_in n (numbers_of (cond d (r ∷ filter (is_due now) rs) (filter (is_due now) rs))) ≡ comes (cond b (Some r) (request_of n rs)) now
    by_tests true is true due later none = rw (is, due) refl
    by_tests true is false due later none = none is ∙ sym due
    by_tests false is true due later none = rw is later
    by_tests false is false due later none = later

request_refreshed : (settings : NackSettings) (now n : ℕ) (ns : List ℕ) (rs : List PendingRequest)
    → request_of n (refreshed_with settings now ns rs) ≡ cond (is_in n ns) (Some (kept_or_new settings now rs n)) None
request_refreshed settings now n [] rs = refl
request_refreshed settings now n (m ∷ ms) rs = by_test (m == n) refl (kept_number settings now m rs) (request_refreshed settings now n ms rs)
  where
    by_test : (b : Bool) → (m == n) ≡ b → (kept_or_new settings now rs m).number ≡ m
        → request_of n (refreshed_with settings now ms rs) ≡ cond (is_in n ms) (Some (kept_or_new settings now rs n)) None
        → cond ((kept_or_new settings now rs m).number == n) (Some (kept_or_new settings now rs m)) (request_of n (refreshed_with settings now ms rs))
        ≡ cond (b || is_in n ms) (Some (kept_or_new settings now rs n)) None
    by_test true is number later = let e : m ≡ n = grind (arith, nat_tests) in rw (number, is, e) refl
    by_test false is number later = rw (number, is) later

request_tried : (tries retry now n : ℕ) (rs : List PendingRequest) → request_of n (tried_in tries retry now rs) ≡ option_map (tried_if_due tries retry now) (request_of n rs)
request_tried tries retry now n [] = refl
request_tried tries retry now n (r ∷ rs) = by_test (r.number == n) refl (number_tried tries retry now r) (request_tried tries retry now n rs)
  where
    by_test : (b : Bool) → (r.number == n) ≡ b → (tried_if_due tries retry now r).number ≡ r.number
        → request_of n (tried_in tries retry now rs) ≡ option_map (tried_if_due tries retry now) (request_of n rs)
        → cond ((tried_if_due tries retry now r).number == n) (Some (tried_if_due tries retry now r)) (request_of n (tried_in tries retry now rs))
        ≡ option_map (tried_if_due tries retry now) (cond b (Some r) (request_of n rs))
    by_test true is number later = rw (number, is) refl
    by_test false is number later = rw (number, is) later

-- ---- the request of a number agrees with the calls

abbrev pub Tracks : NackSettings → Option ℕ → List Request → Option PendingRequest → Type 0
Tracks settings since sent None = (since ≡ None) × (sent ≡ [])
Tracks settings since sent (Some r) =
    (at : ℕ) × (since ≡ Some at) × (r.due ≡ next_of settings at sent) × (r.tries ≡ length sent) × (length sent ≤ settings.tries)

refresh_tracks : (settings : NackSettings) (now n : ℕ) (since : Option ℕ) (sent : List Request) (o : Option PendingRequest) (b : Bool) → Tracks settings since sent o
    → Tracks settings (cond b (Some (begun now since)) None) (cond b sent []) (cond b (Some (unwrap_or o (new_request settings now n))) None)
refresh_tracks settings now n since sent o false so = (refl, refl)
refresh_tracks settings now n since sent None true (none, empty) = rw (none, empty) (now, refl, refl, refl, omega arith)
refresh_tracks settings now n since sent (Some r) true (at, is, due, tries, few) = (at, ap (λ (x : Option ℕ). Some (begun now x)) is, due, tries, few)

-- a number that is due was not requested often enough
few_so_far : (settings : NackSettings) (since now : ℕ) (sent : List Request) → has_come (next_of settings since sent) now ≡ true → length sent < settings.tries
few_so_far settings since now [] come = by_test (nat_lt 0 settings.tries) refl come
  where
    by_test : (b : Bool) → nat_lt 0 settings.tries ≡ b → has_come (cond b (later since settings.first_wait) None) now ≡ true → 0 < settings.tries
    by_test true is come = grind (arith, nat_tests)
    by_test false is come = cc
few_so_far settings since now (last ∷ before) come = by_test (nat_lt (length (last ∷ before)) settings.tries) refl come
  where
    by_test : (b : Bool) → nat_lt (length (last ∷ before)) settings.tries ≡ b → has_come (cond b (later last.at last.retry) None) now ≡ true → length (last ∷ before) < settings.tries
    by_test true is come = grind (arith, nat_tests)
    by_test false is come = cc

abbrev pub request_now : ℕ → ℕ → Request
request_now now retry = record { at = now; retry = retry }

sent_tracks : (settings : NackSettings) (retry now : ℕ) (since : Option ℕ) (sent : List Request) (r : PendingRequest) (b : Bool) → settings.tries < 2 ^ 32 → is_due now r ≡ b
    → Tracks settings since sent (Some r)
    → Tracks settings since (cond b (request_now now retry ∷ sent) sent) (Some (cond b (tried settings.tries retry now r) r))
sent_tracks settings retry now since sent r false small due so = so
sent_tracks settings retry now since sent r true small due (at, is, next, tries, few) =
    let room : length sent < settings.tries = few_so_far settings at now sent (ap (λ (x : Option ℕ). has_come x now) (sym next) ∙ due) in
    let one : r.tries + 1 ≡ length (request_now now retry ∷ sent) = omega (arith, tries) in
    (at, is, ap (λ (k : ℕ). cond (nat_lt k settings.tries) (later now retry) None) one, omega (arith, one, room, small), omega (arith, room))

due_tracks : (settings : NackSettings) (retry now : ℕ) (since : Option ℕ) (sent : List Request) (o : Option PendingRequest) → settings.tries < 2 ^ 32
    → Tracks settings since sent o
    → Tracks settings since (cond (comes o now) (request_now now retry ∷ sent) sent) (option_map (tried_if_due settings.tries retry now) o)
due_tracks settings retry now since sent None small so = so
due_tracks settings retry now since sent (Some r) small so = sent_tracks settings retry now since sent r (is_due now r) small refl so

tracks : (settings : NackSettings) (n : ℕ) (calls : List Call) → settings.tries < 2 ^ 32
    → Tracks settings (followed_since settings n calls) (requests_of settings n calls) (request_of n (schedule_after settings calls).pending)
tracks settings n [] small = (refl, refl)
tracks settings n (refresh now missing ∷ before) small =
    let s = schedule_after settings before in
    let since = followed_since settings n before in
    let sent = requests_of settings n before in
    let b = is_in n (followed settings missing) in
    let is : request_of n (refreshed_with s.settings now (followed s.settings missing) s.pending) ≡ cond b (Some (unwrap_or (request_of n s.pending) (new_request settings now n))) None =
    ap (λ (x : NackSettings). request_of n (refreshed_with x now (followed x missing) s.pending)) (settings_stay settings before)
    ∙ request_refreshed settings now n (followed settings missing) s.pending in
    subst (λ (o : Option PendingRequest). Tracks settings (cond b (Some (begun now since)) None) (cond b sent []) o) (sym is)
    (refresh_tracks settings now n since sent (request_of n s.pending) b (tracks settings n before small))
tracks settings n (take_due now ∷ before) small =
    let s = schedule_after settings before in
    let since = followed_since settings n before in
    let sent = requests_of settings n before in
    let retry = retry_time s.settings s.trip in
    let is : request_of n (tried_in s.settings.tries retry now s.pending) ≡ option_map (tried_if_due settings.tries retry now) (request_of n s.pending) =
    ap (λ (x : NackSettings). request_of n (tried_in x.tries retry now s.pending)) (settings_stay settings before) ∙ request_tried settings.tries retry now n s.pending in
    let due : is_in n (due_in now s.pending) ≡ comes (request_of n s.pending) now = due_comes n now s.pending (rising settings before) in
    subst (λ (o : Option PendingRequest). Tracks settings since (cond (is_in n (due_in now s.pending)) (request_now now retry ∷ sent) sent) o) (sym is)
    (subst (λ (b : Bool). Tracks settings since (cond b (request_now now retry ∷ sent) sent) (option_map (tried_if_due settings.tries retry now) (request_of n s.pending))) (sym due)
    (due_tracks settings retry now since sent (request_of n s.pending) small (tracks settings n before small)))
tracks settings n (answered now number ∷ before) small =
    let s = schedule_after settings before in
    subst (λ (rs : List PendingRequest). Tracks settings (followed_since settings n before) (requests_of settings n before) (request_of n rs))
    (sym (pending_trip (answer_of number s.pending) now s)) (tracks settings n before small)
tracks settings n (report round_trip ∷ before) small = tracks settings n before small

-- ---- the theorems

comes_is : (settings : NackSettings) (since : Option ℕ) (sent : List Request) (o : Option PendingRequest) (now : ℕ) → Tracks settings since sent o
    → comes o now ≡ has_come (next_by settings since sent) now
comes_is settings since sent None now (none, empty) = rw none refl
comes_is settings since sent (Some r) now (at, is, next, tries, few) = rw (is, next) refl

pub exact : Exact
exact settings calls n now small =
    let s = schedule_after settings calls in
    due_comes n now s.pending (rising settings calls)
    ∙ comes_is settings (followed_since settings n calls) (requests_of settings n calls) (request_of n s.pending) now (tracks settings n calls small)

few_sent : (settings : NackSettings) (since : Option ℕ) (sent : List Request) (o : Option PendingRequest) → Tracks settings since sent o → length sent ≤ settings.tries
few_sent settings since sent None (none, empty) = rw empty (omega arith)
few_sent settings since sent (Some r) (at, is, next, tries, few) = few

pub bounded : Bounded
bounded settings calls n small =
    let s = schedule_after settings calls in (
      few_sent settings (followed_since settings n calls) (requests_of settings n calls) (request_of n s.pending) (tracks settings n calls small),
      omega (arith, length-map s.pending (λ (r : PendingRequest). r.number), ap length (numbers_are settings calls), length-take settings.capacity (rising_after None (missing_at calls))),
    )

one_more : (settings : NackSettings) (since : Option ℕ) (sent : List Request) (retry now : ℕ) → has_come (next_by settings since sent) now ≡ true → AreApart sent
    → AreApart (request_now now retry ∷ sent)
one_more settings since [] retry now come apart = tt
one_more settings None (last ∷ before) retry now come apart = cc
one_more settings (Some since) (last ∷ before) retry now come apart = (by_test (nat_lt (length (last ∷ before)) settings.tries) come, apart)
  where
    by_test : (b : Bool) → has_come (cond b (later last.at last.retry) None) now ≡ true → last.at + last.retry ≤ now
    by_test true is = come_later last.at last.retry now is
    by_test false is = cc

apart_if : (sent more : List Request) (b : Bool) → (b ≡ true → AreApart more) → AreApart sent → AreApart (cond b more sent)
apart_if sent more true so apart = so refl
apart_if sent more false so apart = apart

pub apart : Apart
apart settings [] n small = tt
apart settings (refresh now missing ∷ before) n small =
    apart_if [] (requests_of settings n before) (is_in n (followed settings missing)) (λ _. apart settings before n small) tt
apart settings (take_due now ∷ before) n small =
    let s = schedule_after settings before in
    let sent = requests_of settings n before in
    let retry = retry_time s.settings s.trip in
    apart_if sent (request_now now retry ∷ sent) (is_in n (requested_at settings before now))
    (λ is. one_more settings (followed_since settings n before) sent retry now (sym (exact settings before n now small) ∙ is) (apart settings before n small))
    (apart settings before n small)
apart settings (answered now number ∷ before) n small = apart settings before n small
apart settings (report round_trip ∷ before) n small = apart settings before n small

some_due : (rs : List PendingRequest) (now : ℕ) → nat_lt 0 (length (due_in now rs)) ≡ has_come (earliest_of rs) now
some_due [] now = refl
some_due (r ∷ rs) now = by_test (is_due now r) refl (some_due rs now)
  where
    by_test : (b : Bool) → is_due now r ≡ b → nat_lt 0 (length (due_in now rs)) ≡ has_come (earliest_of rs) now
        → nat_lt 0 (length (numbers_of (cond b (r ∷ filter (is_due now) rs) (filter (is_due now) rs)))) ≡ has_come (earlier r.due (earliest_of rs)) now
    by_test true is later = rw (come_earlier r.due (earliest_of rs) now, is) (grind (arith, nat_tests))
    by_test false is later = rw (come_earlier r.due (earliest_of rs) now, is) later

pub on_time : OnTime
on_time settings calls now = some_due (schedule_after settings calls).pending now

-- ---- the round trip

samples_trip : (o : Option PendingRequest) (now : ℕ) (s : Schedule) (samples : List ℕ) → s.trip.samples ≡ take 5 samples
    → (trip_by o now s).trip.samples ≡ take 5 (with_sample o now samples)
samples_trip None now s samples is = is
samples_trip (Some r) now s samples is = ap (λ (l : List ℕ). take 5 ((now - r.first) ∷ l)) is ∙ ap (λ (l : List ℕ). (now - r.first) ∷ l) (front_again 4 samples)

-- the latest five samples are kept
samples_are : (settings : NackSettings) (calls : List Call) → (schedule_after settings calls).trip.samples ≡ latest_of settings calls
samples_are settings [] = refl
samples_are settings (refresh now ns ∷ before) = samples_are settings before
samples_are settings (take_due now ∷ before) = samples_are settings before
samples_are settings (answered now number ∷ before) =
    let s = schedule_after settings before in samples_trip (answer_of number s.pending) now s (samples_of settings before) (samples_are settings before)
samples_are settings (report round_trip ∷ before) = samples_are settings before

reported_trip : (o : Option PendingRequest) (now : ℕ) (s : Schedule) → (trip_by o now s).trip.reported ≡ s.trip.reported
reported_trip None now s = refl
reported_trip (Some r) now s = refl

reported_is : (settings : NackSettings) (calls : List Call) → (schedule_after settings calls).trip.reported ≡ reported_by calls
reported_is settings [] = refl
reported_is settings (refresh now ns ∷ before) = reported_is settings before
reported_is settings (take_due now ∷ before) = reported_is settings before
reported_is settings (answered now number ∷ before) =
    let s = schedule_after settings before in reported_trip (answer_of number s.pending) now s ∙ reported_is settings before
reported_is settings (report round_trip ∷ before) = refl

pub reported : Reported
reported settings calls ticks is =
    let s = schedule_after settings calls in ap (λ (o : Option ℕ). reported_or o (median s.trip.samples)) (reported_is settings calls ∙ is)

pub follows_most : FollowsMost
follows_most settings calls a b none many =
    let s = schedule_after settings calls in
    let is : round_trip_after settings calls ≡ median (latest_of settings calls) =
    ap (λ (o : Option ℕ). reported_or o (median s.trip.samples)) (reported_is settings calls ∙ none) ∙ ap median (samples_are settings calls) in
    subst (LiesWithin a b) (sym is) (median_lies a b (latest_of settings calls) many)
