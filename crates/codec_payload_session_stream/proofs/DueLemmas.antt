-- Requests that are updated again with the same missing numbers stay, and before their deadline none is due.
use Rattle.std.proofs.Common.{◌≡◌, ◌∙◌, refl, ap, sym, subst, ℕ, ◌<◌, ◌==◌, ◌&&◌, List, [], ◌∷◌, ◌++◌, Bool, true, false, cond, Option, Some, None, map, filter, unwrap_or, append_assoc, arith, max}
use Rattle.std.specs.Prelude.{nat_le}
use Rattle.std.proofs.lemmas.Bool.{eqb-true}
use Rattle.std.proofs.lemmas.Bool.Decides.{nat_tests}
use Rattle.codec_payload_feedback.specs.declared.requests.RequestCounts.{RequestCounts}
use Rattle.codec_payload_feedback.specs.Feedback.{Requests, after_feedback, counted, deadline_of, has_any, keyframe_is_due, keyframe_pause, numbers_due, updated}
use Rattle.codec_payload_feedback_requests.specs.KeyframeRequests.{after_pause, deadline_of as keyframe_deadline, is_due as is_keyframe_due}
use Rattle.codec_payload_feedback_requests.specs.NackSchedule.{earliest_of, followed, is_due, kept_or_new, low_bits, new_request, numbers_of, refreshed_with, request_of, retry_time, tried, tried_if_due, tried_in}
use Rattle.codec_payload_feedback_requests.specs.Requests.{earlier, has_come, later}
use Rattle.codec_payload_feedback_requests.specs.declared.keyframe.KeyframeRequests.{KeyframeRequests}
use Rattle.codec_payload_feedback_requests.specs.declared.nack.NackSettings.{NackSettings}
use Rattle.codec_payload_feedback_requests.specs.declared.nack.PendingRequest.{PendingRequest}
use Rattle.codec_payload_session_stream.specs.Quiet.{IsBefore}

-- ---- the same missing numbers

same_number : (n : ℕ) → (n == n) ≡ true
same_number n = grind (arith, nat_tests)

kept_number : (settings : NackSettings) (now n : ℕ) (rs : List PendingRequest) → (kept_or_new settings now rs n).number ≡ n
kept_number settings now n [] = refl
kept_number settings now n (r ∷ rs) = by_test (r.number == n) refl (kept_number settings now n rs)
  where
    by_test : (b : Bool) → (r.number == n) ≡ b → (kept_or_new settings now rs n).number ≡ n → (unwrap_or (cond b (Some r) (request_of n rs)) (new_request settings now n)).number ≡ n
    by_test true is rest = eqb-true r.number n is
    by_test false is rest = rest

tried_number : (tries retry now : ℕ) (r : PendingRequest) → (tried_if_due tries retry now r).number ≡ r.number
tried_number tries retry now r = by_test (is_due now r)
  where
    by_test : (b : Bool) → (cond b (tried tries retry now r) r).number ≡ r.number
    by_test true = refl
    by_test false = refl

-- the request of a number, among requests that are made of their numbers
request_there : (g : ℕ → PendingRequest) → ((n : ℕ) → (g n).number ≡ n) → (n : ℕ) (front back : List ℕ) → request_of n (map g (front ++ n ∷ back)) ≡ Some (g n)
request_there g own n [] back =
    let own_test : ((g n).number == n) ≡ true = ap (λ (k : ℕ). k == n) (own n) ∙ same_number n in
    ap (λ (b : Bool). cond b (Some (g n)) (request_of n (map g back))) own_test
request_there g own n (m ∷ ms) back = by_test ((g m).number == n) refl (request_there g own n ms back)
  where
    by_test : (b : Bool) → ((g m).number == n) ≡ b → request_of n (map g (ms ++ n ∷ back)) ≡ Some (g n) → cond b (Some (g m)) (request_of n (map g (ms ++ n ∷ back))) ≡ Some (g n)
    by_test true is rest = let same : m ≡ n = sym (own m) ∙ eqb-true (g m).number n is in ap (λ (k : ℕ). Some (g k)) same
    by_test false is rest = rest

again_from : (settings : NackSettings) (at : ℕ) (g : ℕ → PendingRequest) → ((n : ℕ) → (g n).number ≡ n) → (front back : List ℕ)
    → map (kept_or_new settings at (map g (front ++ back))) back ≡ map g back
again_from settings at g own front [] = refl
again_from settings at g own front (n ∷ ns) =
    let head : kept_or_new settings at (map g (front ++ n ∷ ns)) n ≡ g n = ap (λ (o : Option PendingRequest). unwrap_or o (new_request settings at n)) (request_there g own n front ns) in
    let rest : map (kept_or_new settings at (map g ((front ++ n ∷ []) ++ ns))) ns ≡ map g ns = again_from settings at g own (front ++ n ∷ []) ns in
    let tail : map (kept_or_new settings at (map g (front ++ n ∷ ns))) ns ≡ map g ns =
    subst (λ (l : List ℕ). map (kept_or_new settings at (map g l)) ns ≡ map g ns) (append_assoc front (n ∷ []) ns) rest in
    ap (λ (r : PendingRequest). r ∷ map (kept_or_new settings at (map g (front ++ n ∷ ns))) ns) head ∙ ap (λ (rs : List PendingRequest). g n ∷ rs) tail

-- what was requested of each number
abbrev requested : NackSettings → ℕ → ℕ → List PendingRequest → ℕ → PendingRequest
requested settings retry now rs n = tried_if_due settings.tries retry now (kept_or_new settings now rs n)

requested_number : (settings : NackSettings) (retry now : ℕ) (rs : List PendingRequest) (n : ℕ) → (requested settings retry now rs n).number ≡ n
requested_number settings retry now rs n = tried_number settings.tries retry now (kept_or_new settings now rs n) ∙ kept_number settings now n rs

tried_each : (settings : NackSettings) (retry now : ℕ) (rs : List PendingRequest) (ns : List ℕ)
    → tried_in settings.tries retry now (refreshed_with settings now ns rs) ≡ map (requested settings retry now rs) ns
tried_each settings retry now rs [] = refl
tried_each settings retry now rs (n ∷ ns) = ap (λ (l : List PendingRequest). requested settings retry now rs n ∷ l) (tried_each settings retry now rs ns)

pending_again : (settings : NackSettings) (retry now at : ℕ) (rs : List PendingRequest) (ns : List ℕ)
    → refreshed_with settings at ns (tried_in settings.tries retry now (refreshed_with settings now ns rs)) ≡ tried_in settings.tries retry now (refreshed_with settings now ns rs)
pending_again settings retry now at rs ns =
    subst (λ (l : List PendingRequest). refreshed_with settings at ns l ≡ l) (sym (tried_each settings retry now rs ns))
    (again_from settings at (requested settings retry now rs) (requested_number settings retry now rs) [] ns)

wanted_again : (now pause : ℕ) (wanted : Bool) (k : KeyframeRequests)
    → record (after_pause now pause (record k { wanted = wanted })) { wanted = wanted } ≡ after_pause now pause (record k { wanted = wanted })
wanted_again now pause wanted k = by_test (is_keyframe_due now (record k { wanted = wanted }))
  where
    w : KeyframeRequests
    w = record k { wanted = wanted }

    by_test : (b : Bool) → record (cond b (record w { next = later now (max k.interval pause) }) w) { wanted = wanted } ≡ cond b (record w { next = later now (max k.interval pause) }) w
    by_test true = refl
    by_test false = refl

pub updated_again : (now at : ℕ) (missing : List ℕ) (wanted : Bool) (q : Requests)
    → updated at missing wanted (after_feedback now (updated now missing wanted q)) ≡ after_feedback now (updated now missing wanted q)
updated_again now at missing wanted q =
    let s : NackSettings = q.nack.settings in
    let t : Requests = after_feedback now (updated now missing wanted q) in
    ap (λ (rs : List PendingRequest). record t { nack = record t.nack { pending = rs }; keyframes = record t.keyframes { wanted = wanted } })
    (pending_again s (retry_time s q.nack.trip) now at q.nack.pending (followed s missing))
    ∙ ap (λ (k : KeyframeRequests). record t { keyframes = k }) (wanted_again now (keyframe_pause q) wanted q.keyframes)

-- ---- before the deadline

pub earlier_both : (a b : Option ℕ) (now : ℕ) → IsBefore (earlier a b) now → IsBefore a now × IsBefore b now
earlier_both None b now before = (tt, before)
earlier_both (Some a) None now before = (before, tt)
earlier_both (Some a) (Some b) now before = by_test (nat_le a b) refl before
  where
    by_test : (c : Bool) → nat_le a b ≡ c → IsBefore (cond c (Some a) (Some b)) now → (now < a) × (now < b)
    by_test true is less = (less, grind (arith, nat_tests))
    by_test false is less = (grind (arith, nat_tests), less)

not_come : (due : Option ℕ) (now : ℕ) → IsBefore due now → has_come due now ≡ false
not_come None now before = refl
not_come (Some at) now before = grind (arith, nat_tests)

none_due : (now : ℕ) (rs : List PendingRequest) → IsBefore (earliest_of rs) now → filter (is_due now) rs ≡ []
none_due now [] before = refl
none_due now (r ∷ rs) before =
    let both = earlier_both r.due (earliest_of rs) now before in
    ap (λ (b : Bool). cond b (r ∷ filter (is_due now) rs) (filter (is_due now) rs)) (not_come r.due now both.0) ∙ none_due now rs both.1

none_tried : (tries retry now : ℕ) (rs : List PendingRequest) → IsBefore (earliest_of rs) now → tried_in tries retry now rs ≡ rs
none_tried tries retry now [] before = refl
none_tried tries retry now (r ∷ rs) before =
    let both = earlier_both r.due (earliest_of rs) now before in
    ap (λ (b : Bool). cond b (tried tries retry now r) r ∷ tried_in tries retry now rs) (not_come r.due now both.0) ∙ ap (λ (l : List PendingRequest). r ∷ l) (none_tried tries retry now rs both.1)

no_keyframe_due : (now : ℕ) (k : KeyframeRequests) → IsBefore (keyframe_deadline k) now → is_keyframe_due now k ≡ false
no_keyframe_due now k before = by_test k.wanted before
  where
    by_test : (b : Bool) → IsBefore (cond b k.next None) now → b && has_come k.next now ≡ false
    by_test true less = not_come k.next now less
    by_test false less = refl

pub nothing_due : (now : ℕ) (q : Requests) → IsBefore (deadline_of q) now → has_any (numbers_due now q) (keyframe_is_due now q) ≡ false
nothing_due now q before =
    let both = earlier_both (earliest_of q.nack.pending) (keyframe_deadline q.keyframes) now before in
    ap (λ (rs : List PendingRequest). has_any (map low_bits (numbers_of rs)) (keyframe_is_due now q)) (none_due now q.nack.pending both.0) ∙ no_keyframe_due now q.keyframes both.1

counted_none : (numbers : List ℕ) (keyframe : Bool) (c : RequestCounts) → numbers ≡ [] → keyframe ≡ false → counted numbers keyframe c ≡ c
counted_none numbers keyframe c no_numbers no_keyframe = rw (no_numbers, no_keyframe) refl

pub nothing_sent : (now : ℕ) (q : Requests) → IsBefore (deadline_of q) now → after_feedback now q ≡ q
nothing_sent now q before =
    let both = earlier_both (earliest_of q.nack.pending) (keyframe_deadline q.keyframes) now before in
    let kept : after_pause now (keyframe_pause q) q.keyframes ≡ q.keyframes =
    ap (λ (b : Bool). cond b (record q.keyframes { next = later now (max q.keyframes.interval (keyframe_pause q)) }) q.keyframes) (no_keyframe_due now q.keyframes both.1) in
    let numbers : numbers_due now q ≡ [] = ap (λ (rs : List PendingRequest). map low_bits (numbers_of rs)) (none_due now q.nack.pending both.0) in
    let counts : counted (numbers_due now q) (keyframe_is_due now q) q.counts ≡ q.counts = counted_none (numbers_due now q) (keyframe_is_due now q) q.counts numbers (no_keyframe_due now q.keyframes both.1) in
    ap (λ (rs : List PendingRequest). record q { nack = record q.nack { pending = rs }; keyframes = after_pause now (keyframe_pause q) q.keyframes; counts = counted (numbers_due now q) (keyframe_is_due now q) q.counts })
    (none_tried q.nack.settings.tries (retry_time q.nack.settings q.nack.trip) now q.nack.pending both.0)
    ∙ (ap (λ (k : KeyframeRequests). record q { keyframes = k; counts = counted (numbers_due now q) (keyframe_is_due now q) q.counts }) kept ∙ ap (λ (c : RequestCounts). record q { counts = c }) counts)
