-- A table of requests that rises, and its merge with the missing numbers.
use Rattle.std.proofs.Common.{◌≡◌, ℕ, zero, suc, ◌+◌, ◌-◌, ◌<◌, ◌≤◌, ◌==◌, ◌&&◌, List, [], ◌∷◌, ◌++◌, take, drop, length, get_or, ◌||◌, Bool, true, false, cond, Option, Some, None, refl, sym, ap, ◌∙◌, arith, unwrap_or, map, add-one, append_assoc, length-append}
use Rattle.std.proofs.lemmas.Bool.Decides.{nat_tests}
use Rattle.std.proofs.lemmas.List.{append-nil, take_all}
use Rattle.codec_payload_feedback_requests.specs.declared.nack.NackSettings.{NackSettings}
use Rattle.codec_payload_feedback_requests.specs.declared.nack.PendingRequest.{PendingRequest}
use Rattle.codec_payload_feedback_requests.specs.Requests.{has_come}
use Rattle.codec_payload_feedback_requests.proofs.MomentLemmas.{come_earlier}
use Rattle.codec_payload_feedback_requests.specs.NackSchedule.{Schedule, after_due, are_rising, are_rising_after, due_in, due_numbers, earliest_of, followed, is_due, is_past, kept_if_first, kept_or_new, low_bits, new_request, numbers_of, refreshed, refreshed_with, request_of, retry_time, rising_after, skipped_below, tried, tried_if_due, tried_in}

-- the numbers rise, also without those before them
pub weaken : (k : ℕ) (ns : List ℕ) → are_rising_after (Some k) ns ≡ true → are_rising_after None ns ≡ true
weaken k [] rising = refl
weaken k (n ∷ ns) rising = grind (arith, nat_tests)

-- no number at or below k is among numbers that rise from k on
pub absent_above : (k n : ℕ) (rs : List PendingRequest) → n ≤ k → are_rising_after (Some k) (numbers_of rs) ≡ true → request_of n rs ≡ None
absent_above k n [] below rising = refl
absent_above k n (r ∷ rs) below rising = grind (arith, nat_tests, absent_above r.number n rs)

pub skip_keeps : (n m : ℕ) (rs : List PendingRequest) → n ≤ m → request_of m (skipped_below n rs) ≡ request_of m rs
skip_keeps n m [] above = refl
skip_keeps n m (r ∷ rs) above = grind (arith, nat_tests, skip_keeps n m rs above)

pub skip_rising : (n : ℕ) (rs : List PendingRequest) → are_rising (numbers_of rs) ≡ true → are_rising (numbers_of (skipped_below n rs)) ≡ true
skip_rising n [] rising = refl
skip_rising n (r ∷ rs) rising = grind (arith, nat_tests, skip_rising n rs (weaken r.number (numbers_of rs) rising))

pub kept_first : (settings : NackSettings) (now n : ℕ) (rs : List PendingRequest) → are_rising (numbers_of rs) ≡ true
    → kept_if_first settings now n (skipped_below n rs) ≡ kept_or_new settings now (skipped_below n rs) n
kept_first settings now n [] rising = refl
kept_first settings now n (r ∷ rs) rising = grind (arith, nat_tests, kept_first settings now n rs (weaken r.number (numbers_of rs) rising), absent_above r.number n rs)

-- ---- the numbers of a table

pub kept_number : (settings : NackSettings) (now n : ℕ) (rs : List PendingRequest) → (kept_or_new settings now rs n).number ≡ n
kept_number settings now n [] = refl
kept_number settings now n (r ∷ rs) = by_test (r.number == n) refl (kept_number settings now n rs)
  where
    by_test : (b : Bool) → (r.number == n) ≡ b → (kept_or_new settings now rs n).number ≡ n → (unwrap_or (cond b (Some r) (request_of n rs)) (new_request settings now n)).number ≡ n
    by_test true is later = grind (arith, nat_tests)
    by_test false is later = later

pub numbers_refreshed : (settings : NackSettings) (now : ℕ) (ns : List ℕ) (rs : List PendingRequest) → numbers_of (refreshed_with settings now ns rs) ≡ ns
numbers_refreshed settings now [] rs = refl
numbers_refreshed settings now (n ∷ ns) rs = cc (kept_number settings now n rs, numbers_refreshed settings now ns rs)

pub number_tried : (tries retry now : ℕ) (r : PendingRequest) → (tried_if_due tries retry now r).number ≡ r.number
number_tried tries retry now r = by_test (is_due now r)
  where
    by_test : (b : Bool) → (cond b (tried tries retry now r) r).number ≡ r.number
    by_test true = refl
    by_test false = refl

pub numbers_tried : (tries retry now : ℕ) (rs : List PendingRequest) → numbers_of (tried_in tries retry now rs) ≡ numbers_of rs
numbers_tried tries retry now [] = refl
numbers_tried tries retry now (r ∷ rs) = cc (number_tried tries retry now r, numbers_tried tries retry now rs)

rising_rises : (last : Option ℕ) (ns : List ℕ) → are_rising_after last (rising_after last ns) ≡ true
rising_rises last [] = refl
rising_rises last (n ∷ ns) = by_test (is_past last n) refl (rising_rises (Some n) ns) (rising_rises last ns)
  where
    by_test : (b : Bool) → is_past last n ≡ b → are_rising_after (Some n) (rising_after (Some n) ns) ≡ true → are_rising_after last (rising_after last ns) ≡ true
        → are_rising_after last (cond b (n ∷ rising_after (Some n) ns) (rising_after last ns)) ≡ true
    by_test true is after skipped = rw (is, after) refl
    by_test false is after skipped = skipped

rising_take : (k : ℕ) (last : Option ℕ) (ns : List ℕ) → are_rising_after last ns ≡ true → are_rising_after last (take k ns) ≡ true
rising_take zero last ns rising = refl
rising_take (suc k) last [] rising = refl
rising_take (suc k) last (n ∷ ns) rising = by_test (is_past last n) rising (λ h. rising_take k (Some n) ns h)
  where
    by_test : (b : Bool) → (b && are_rising_after (Some n) ns) ≡ true → (are_rising_after (Some n) ns ≡ true → are_rising_after (Some n) (take k ns) ≡ true)
        → (b && are_rising_after (Some n) (take k ns)) ≡ true
    by_test true is later = later is
    by_test false is later = is

pub followed_rises : (settings : NackSettings) (missing : List ℕ) → are_rising (followed settings missing) ≡ true
followed_rises settings missing = rising_take settings.capacity None (rising_after None missing) (rising_rises None missing)

pub refreshed_rises : (settings : NackSettings) (now : ℕ) (missing : List ℕ) (rs : List PendingRequest)
    → are_rising (numbers_of (refreshed_with settings now (followed settings missing) rs)) ≡ true
refreshed_rises settings now missing rs = ap are_rising (numbers_refreshed settings now (followed settings missing) rs) ∙ followed_rises settings missing

pub tried_rises : (tries retry now : ℕ) (rs : List PendingRequest) → are_rising (numbers_of rs) ≡ true → are_rising (numbers_of (tried_in tries retry now rs)) ≡ true
tried_rises tries retry now rs rising = ap are_rising (numbers_tried tries retry now rs) ∙ rising

-- ---- the missing numbers, one after another

pub merge_step : (settings : NackSettings) (now n k : ℕ) (ns : List ℕ) (pending out : List PendingRequest) → 0 < k
    → (out ++ kept_or_new settings now pending n ∷ []) ++ refreshed_with settings now (take (k - 1) ns) pending ≡ out ++ refreshed_with settings now (take k (n ∷ ns)) pending
merge_step settings now n zero ns pending out some = absurd (omega (arith, some))
merge_step settings now n (suc k) ns pending out some =
    let j : suc k - 1 ≡ k = omega arith in
    rw j (append_assoc out (kept_or_new settings now pending n ∷ []) (refreshed_with settings now (take k ns) pending))

pub past_on : (last : Option ℕ) (n m : ℕ) → is_past last n ≡ true → is_past (Some n) m ≡ true → is_past last m ≡ true
past_on None n m past on = refl
past_on (Some k) n m past on = grind (arith, nat_tests)

-- a number that rises: its request is at the front of the rest
pub kept_here : (settings : NackSettings) (now n : ℕ) (rest pending : List PendingRequest) → are_rising (numbers_of rest) ≡ true
    → request_of n rest ≡ request_of n pending → kept_if_first settings now n (skipped_below n rest) ≡ kept_or_new settings now pending n
kept_here settings now n rest pending rising same =
    kept_first settings now n rest rising
    ∙ ap (λ (o : Option PendingRequest). unwrap_or o (new_request settings now n)) (skip_keeps n n rest (omega arith) ∙ same)

pub same_more : (last : Option ℕ) (n : ℕ) (rest pending : List PendingRequest) → is_past last n ≡ true
    → ((m : ℕ) → is_past last m ≡ true → request_of m rest ≡ request_of m pending)
    → (m : ℕ) → is_past (Some n) m ≡ true → request_of m (skipped_below n rest) ≡ request_of m pending
same_more last n rest pending past same m on = skip_keeps n m rest (above n m on) ∙ same m (past_on last n m past on)
  where
    above : (n m : ℕ) → is_past (Some n) m ≡ true → n ≤ m
    above n m on = grind (arith, nat_tests)

pub rising_here : (last : Option ℕ) (n : ℕ) (ns : List ℕ) → is_past last n ≡ true → rising_after last (n ∷ ns) ≡ n ∷ rising_after (Some n) ns
rising_here last n ns past = rw past refl

pub rising_later : (last : Option ℕ) (n : ℕ) (ns : List ℕ) → is_past last n ≡ false → rising_after last (n ∷ ns) ≡ rising_after last ns
rising_later last n ns past = rw past refl

-- the result of the merge: `left` are the missing numbers from here on
abbrev pub merged : NackSettings → ℕ → List PendingRequest → List PendingRequest → Option ℕ → List ℕ → List PendingRequest
merged settings now pending out last left = out ++ refreshed_with settings now (take (settings.capacity - length out) (rising_after last left)) pending

pub merged_more : (settings : NackSettings) (now n : ℕ) (pending out next : List PendingRequest) (last : Option ℕ) (ns : List ℕ) → is_past last n ≡ true
    → length out < settings.capacity → next ≡ out ++ kept_or_new settings now pending n ∷ []
    → merged settings now pending next (Some n) ns ≡ merged settings now pending out last (n ∷ ns)
merged_more settings now n pending out next last ns past room is =
    let one : length next ≡ length out + 1 = omega (arith, ap length is, length-append out (kept_or_new settings now pending n ∷ [])) in
    let less : settings.capacity - length next ≡ (settings.capacity - length out) - 1 = omega (arith, one, room) in
    let here : merged settings now pending out last (n ∷ ns) ≡ out ++ refreshed_with settings now (take (settings.capacity - length out) (n ∷ rising_after (Some n) ns)) pending =
    ap (λ (l : List ℕ). out ++ refreshed_with settings now (take (settings.capacity - length out) l) pending) (rising_here last n ns past) in
    let there : merged settings now pending next (Some n) ns
    ≡ (out ++ kept_or_new settings now pending n ∷ []) ++ refreshed_with settings now (take ((settings.capacity - length out) - 1) (rising_after (Some n) ns)) pending =
    ap (λ (k : ℕ). next ++ refreshed_with settings now (take k (rising_after (Some n) ns)) pending) less
    ∙ ap (λ (l : List PendingRequest). l ++ refreshed_with settings now (take ((settings.capacity - length out) - 1) (rising_after (Some n) ns)) pending) is in
    there ∙ merge_step settings now n (settings.capacity - length out) (rising_after (Some n) ns) pending out (omega (arith, room)) ∙ sym here

pub merged_later : (settings : NackSettings) (now n : ℕ) (pending out : List PendingRequest) (last : Option ℕ) (ns : List ℕ) → is_past last n ≡ false
    → merged settings now pending out last ns ≡ merged settings now pending out last (n ∷ ns)
merged_later settings now n pending out last ns past =
    ap (λ (l : List ℕ). out ++ refreshed_with settings now (take (settings.capacity - length out) l) pending) (sym (rising_later last n ns past))

pub left_is : (ns : List ℕ) (i : ℕ) → i < length ns → drop i ns ≡ get_or ns i 0 ∷ drop (i + 1) ns
left_is [] i within = absurd (omega (arith, within))
left_is (n ∷ ns) zero within = refl
left_is (n ∷ ns) (suc i) within = rw add-one (rw add-one at (left_is ns i (omega (arith, within))))

-- ---- nothing is due

both_false : (a b : Bool) → (a || b) ≡ false → (a ≡ false) × (b ≡ false)
both_false true b is = cc
both_false false b is = (refl, is)

not_due : (now : ℕ) (r : PendingRequest) (rs : List PendingRequest) → has_come (earliest_of (r ∷ rs)) now ≡ false → (is_due now r ≡ false) × (has_come (earliest_of rs) now ≡ false)
not_due now r rs none = both_false (has_come r.due now) (has_come (earliest_of rs) now) (sym (come_earlier r.due (earliest_of rs) now) ∙ none)

-- before the earliest moment no number is due
pub none_due : (now : ℕ) (rs : List PendingRequest) → has_come (earliest_of rs) now ≡ false → due_in now rs ≡ []
none_due now [] none = refl
none_due now (r ∷ rs) none = let both = not_due now r rs none in rw both.0 (none_due now rs both.1)

-- then requests count as sent without a change
pub none_tried : (tries retry now : ℕ) (rs : List PendingRequest) → has_come (earliest_of rs) now ≡ false → tried_in tries retry now rs ≡ rs
none_tried tries retry now [] none = refl
none_tried tries retry now (r ∷ rs) none =
    let both = not_due now r rs none in
    rw both.0 (ap (λ (l : List PendingRequest). r ∷ l) (none_tried tries retry now rs both.1))

pub nothing_due : (now : ℕ) (s : Schedule) → has_come (earliest_of s.pending) now ≡ false → s ≡ after_due now s
nothing_due now s none = rw (none_tried s.settings.tries (retry_time s.settings s.trip) now s.pending none) refl

pub nothing_appended : (now : ℕ) (s : Schedule) (ns : List ℕ) → has_come (earliest_of s.pending) now ≡ false → ns ≡ ns ++ map low_bits (due_numbers now s)
nothing_appended now s ns none = rw (none_due now s.pending none) (sym (append-nil ns))

-- ---- the same numbers are missing

rising_on : (k n : ℕ) (ns : List ℕ) → k ≤ n → are_rising_after (Some n) ns ≡ true → are_rising_after (Some k) ns ≡ true
rising_on k n [] below rising = refl
rising_on k n (m ∷ ms) below rising = grind (arith, nat_tests)

own_later : (settings : NackSettings) (now : ℕ) (r : PendingRequest) (rs : List PendingRequest) (ns : List ℕ) → are_rising_after (Some r.number) ns ≡ true
    → refreshed_with settings now ns (r ∷ rs) ≡ refreshed_with settings now ns rs
own_later settings now r rs [] rising = refl
own_later settings now r rs (n ∷ ns) rising =
    let above : r.number < n = grind (arith, nat_tests) in
    let other : (r.number == n) ≡ false = grind (arith, nat_tests) in
    let on : are_rising_after (Some n) ns ≡ true = grind (arith, nat_tests) in
    rw other (ap (λ (l : List PendingRequest). kept_or_new settings now rs n ∷ l) (own_later settings now r rs ns (rising_on r.number n ns (omega (arith, above)) on)))

-- the requests of their own numbers
own : (settings : NackSettings) (now : ℕ) (rs : List PendingRequest) → are_rising (numbers_of rs) ≡ true → refreshed_with settings now (numbers_of rs) rs ≡ rs
own settings now [] rising = refl
own settings now (r ∷ rs) rising =
    let here : (r.number == r.number) ≡ true = grind (arith, nat_tests) in
    rw here (ap (λ (l : List PendingRequest). r ∷ l) (own_later settings now r rs (numbers_of rs) rising ∙ own settings now rs (weaken r.number (numbers_of rs) rising)))

rising_all : (last : Option ℕ) (ns : List ℕ) → are_rising_after last ns ≡ true → rising_after last ns ≡ ns
rising_all last [] rising = refl
rising_all last (n ∷ ns) rising = by_test (is_past last n) rising (λ on. rising_all (Some n) ns on)
  where
    by_test : (b : Bool) → (b && are_rising_after (Some n) ns) ≡ true → (are_rising_after (Some n) ns ≡ true → rising_after (Some n) ns ≡ ns)
        → cond b (n ∷ rising_after (Some n) ns) (rising_after last ns) ≡ n ∷ ns
    by_test true is later = ap (λ (l : List ℕ). n ∷ l) (later is)
    by_test false is later = cc

-- requests whose numbers are missing as before stay as they are
pub refreshed_same : (settings : NackSettings) (now : ℕ) (missing : List ℕ) (rs : List PendingRequest) → are_rising (numbers_of rs) ≡ true → numbers_of rs ≡ missing
    → length missing ≤ settings.capacity → refreshed_with settings now (followed settings missing) rs ≡ rs
refreshed_same settings now missing rs rising same few =
    let all : followed settings missing ≡ missing = ap (λ (l : List ℕ). take settings.capacity l) (rising_all None missing (ap are_rising (sym same) ∙ rising)) ∙ take_all settings.capacity missing few in
    ap (λ (l : List ℕ). refreshed_with settings now l rs) (all ∙ sym same) ∙ own settings now rs rising

pub same_again : (now : ℕ) (missing : List ℕ) (s : Schedule) → are_rising (numbers_of s.pending) ≡ true → numbers_of s.pending ≡ missing → length missing ≤ s.settings.capacity
    → s ≡ refreshed now missing s
same_again now missing s rising same few = rw (refreshed_same s.settings now missing s.pending rising same few) refl
