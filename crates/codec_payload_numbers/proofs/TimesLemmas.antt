-- The noted times of a sender that gives each number one RTP time contradict none of its packets.
use Rattle.std.proofs.Common.{◌≡◌, ◌∙◌, refl, ap, sym, subst, zero, suc, ℕ, ◌+◌, ◌-◌, ◌*◌, ◌/◌, ◌%◌, ◌≤◌, List, [], ◌∷◌, ◌++◌, drop, length, length-append, Bool, true, false, not, Option, Some, None, cond, eqb, arith, slice_set}
use Rattle.std.specs.Prelude.{IfSome, slice_index_or, nat_lt, nat_le}
use Rattle.std.proofs.lemmas.Bool.{eq-eqb, eqb-true, leb-true, ltb-false}
use Rattle.codec_payload_numbers.specs.NotedTimes.{AreTimesFrom, AreTimesOf, Noted, appended_to, contradicts, gone_on, index_of, is_another, is_noted, is_of_former, is_of_former_by, noted_at, noted_with, places_for, pushed_time, skipped, spacing_of}
use Rattle.codec_payload_numbers.specs.declared.noted_times.FormerSender.{FormerSender}
use Rattle.codec_payload_numbers.specs.declared.noted_times.NotedTime.{NotedTime}

abbrev pub IsTimeOf : (ℕ → ℕ) → NotedTime → Type 0
IsTimeOf time_of x = x.time ≡ time_of x.number

-- the time at one index
looked_up : (time_of : ℕ → ℕ) (spacing index : ℕ) (times : List (Option ℕ)) (i : ℕ) → AreTimesFrom time_of spacing index times
    → IfSome (slice_index_or times i None) (λ t. t ≡ time_of ((index + i) * spacing))
looked_up time_of spacing index [] i all = tt
looked_up time_of spacing index (time ∷ times) zero all = subst (λ (n : ℕ). IfSome time (λ t. t ≡ time_of (n * spacing))) (omega arith) all.0
looked_up time_of spacing index (time ∷ times) (suc i) all =
    subst (λ (n : ℕ). IfSome (slice_index_or times i None) (λ t. t ≡ time_of (n * spacing))) (omega arith) (looked_up time_of spacing (index + 1) times i all.1)

-- one of them is replaced
set_time : (time_of : ℕ → ℕ) (spacing index : ℕ) (times : List (Option ℕ)) (i time : ℕ) → time ≡ time_of ((index + i) * spacing)
    → AreTimesFrom time_of spacing index times → AreTimesFrom time_of spacing index (slice_set times i (Some time))
set_time time_of spacing index [] i time is all = all
set_time time_of spacing index (t ∷ times) zero time is all = (is ∙ ap (λ (n : ℕ). time_of (n * spacing)) (omega arith), all.1)
set_time time_of spacing index (t ∷ times) (suc i) time is all = (all.0, set_time time_of spacing (index + 1) times i time (is ∙ ap (λ (n : ℕ). time_of (n * spacing)) (omega arith)) all.1)

-- one more
more_times : (time_of : ℕ → ℕ) (spacing index : ℕ) (times : List (Option ℕ)) (time : Option ℕ) → IfSome time (λ t. t ≡ time_of ((index + length times) * spacing))
    → AreTimesFrom time_of spacing index times → AreTimesFrom time_of spacing index (times ++ (time ∷ []))
more_times time_of spacing index [] time is all = (subst (λ (n : ℕ). IfSome time (λ t. t ≡ time_of (n * spacing))) (omega arith) is, all)
more_times time_of spacing index (x ∷ times) time is all =
    (all.0, more_times time_of spacing (index + 1) times time (subst (λ (n : ℕ). IfSome time (λ t. t ≡ time_of (n * spacing))) (omega arith) is) all.1)

-- these are the times up to an index
pub record AreTimesTo (time_of : ℕ → ℕ) (spacing end : ℕ) (times : List (Option ℕ)) : Type 0 where
  pub index : ℕ
  pub at_end : index + length times ≡ end
  pub all : AreTimesFrom time_of spacing index times

without_first : (time_of : ℕ → ℕ) (spacing end : ℕ) (times : List (Option ℕ)) → AreTimesTo time_of spacing end times → AreTimesTo time_of spacing end (drop 1 times)
without_first time_of spacing end [] to = to
without_first time_of spacing end (time ∷ times) to = record { index = to.index + 1; at_end = omega (arith, to.at_end); all = to.all.1 }

one_more : (time_of : ℕ → ℕ) (spacing end : ℕ) (times : List (Option ℕ)) (time : Option ℕ) → IfSome time (λ t. t ≡ time_of (end * spacing))
    → AreTimesTo time_of spacing end times → AreTimesTo time_of spacing (end + 1) (times ++ (time ∷ []))
one_more time_of spacing end times time is to = record {
  index = to.index;
  at_end = omega (arith, to.at_end, length-append times (time ∷ []));
  all = more_times time_of spacing to.index times time (subst (λ (n : ℕ). IfSome time (λ t. t ≡ time_of (n * spacing))) (sym to.at_end) is) to.all;
}

pushed_to : (time_of : ℕ → ℕ) (spacing end most : ℕ) (times : List (Option ℕ)) (time : Option ℕ) → IfSome time (λ t. t ≡ time_of (end * spacing))
    → AreTimesTo time_of spacing end times → AreTimesTo time_of spacing (end + 1) (pushed_time most time times)
pushed_to time_of spacing end most times time is to = by_test (nat_lt (length times) most)
  where
    by_test : (b : Bool) → AreTimesTo time_of spacing (end + 1) (cond b times (drop 1 times) ++ (time ∷ []))
    by_test true = one_more time_of spacing end times time is to
    by_test false = one_more time_of spacing end (drop 1 times) time is (without_first time_of spacing end times to)

skipped_to : (time_of : ℕ → ℕ) (spacing end most gap : ℕ) (times : List (Option ℕ)) → AreTimesTo time_of spacing end times → AreTimesTo time_of spacing (end + gap) (skipped most gap times)
skipped_to time_of spacing end most zero times to = subst (λ (n : ℕ). AreTimesTo time_of spacing n times) (omega arith) to
skipped_to time_of spacing end most (suc gap) times to =
    subst (λ (n : ℕ). AreTimesTo time_of spacing n (skipped most (suc gap) times)) (omega arith)
    (pushed_to time_of spacing (end + gap) most (skipped most gap times) None tt (skipped_to time_of spacing end most gap times to))

gone_on_to : (time_of : ℕ → ℕ) (spacing end most gap : ℕ) (times : List (Option ℕ)) → AreTimesTo time_of spacing end times → AreTimesTo time_of spacing (end + gap) (gone_on most gap times)
gone_on_to time_of spacing end most gap times to = by_test (nat_lt gap most)
  where
    by_test : (b : Bool) → AreTimesTo time_of spacing (end + gap) (cond b (skipped most gap times) [])
    by_test true = skipped_to time_of spacing end most gap times to
    by_test false = record { index = end + gap; at_end = omega arith; all = tt }

-- an index after all others
appended : (time_of : ℕ → ℕ) (spacing most index time : ℕ) (s : Noted) → s.first + length s.times ≤ index → time ≡ time_of (index * spacing)
    → AreTimesFrom time_of spacing s.first s.times → AreTimesFrom time_of spacing (appended_to most index time s).first (appended_to most index time s).times
appended time_of spacing most index time s after is all =
    let gap : ℕ = index - s.first - length s.times in
    let here : s.first + length s.times + gap ≡ index = omega (arith, after) in
    let before : AreTimesTo time_of spacing (s.first + length s.times) s.times = record { index = s.first; at_end = refl; all = all } in
    let gone : AreTimesTo time_of spacing index (gone_on most gap s.times) =
    subst (λ (n : ℕ). AreTimesTo time_of spacing n (gone_on most gap s.times)) here (gone_on_to time_of spacing (s.first + length s.times) most gap s.times before) in
    let to : AreTimesTo time_of spacing (index + 1) (pushed_time most (Some time) (gone_on most gap s.times)) = pushed_to time_of spacing index most (gone_on most gap s.times) (Some time) is gone in
    let some : 1 ≤ length (pushed_time most (Some time) (gone_on most gap s.times)) = has_one most (Some time) (gone_on most gap s.times) in
    subst (λ (n : ℕ). AreTimesFrom time_of spacing n (pushed_time most (Some time) (gone_on most gap s.times))) (omega (arith, to.at_end, some)) to.all
  where
    has_one : (most : ℕ) (time : Option ℕ) (times : List (Option ℕ)) → 1 ≤ length (pushed_time most time times)
    has_one most time times = omega (arith, length-append (cond (nat_lt (length times) most) times (drop 1 times)) (time ∷ []))

-- the time of any index
at_index : (time_of : ℕ → ℕ) (most index time : ℕ) (s : Noted) → time ≡ time_of (index * spacing_of s.backward) → AreTimesOf time_of s → AreTimesOf time_of (noted_at most index time s)
at_index time_of most index time s is all = by_test (nat_lt index s.first) (nat_lt (index - s.first) (length s.times)) refl refl
  where
    spacing : ℕ
    spacing = spacing_of s.backward

    by_test : (before within : Bool) → nat_lt index s.first ≡ before → nat_lt (index - s.first) (length s.times) ≡ within → AreTimesOf time_of (noted_at most index time s)
    by_test true within is_before is_within = rw is_before all
    by_test false true is_before is_within =
        rw (is_before, is_within) (
          set_time time_of spacing s.first s.times (index - s.first) time
              (is ∙ ap (λ (n : ℕ). time_of (n * spacing)) (omega (arith, ltb-false index s.first is_before))) all.0,
          all.1,
        )
    by_test false false is_before is_within =
        rw (is_before, is_within) (appended time_of spacing most index time s (omega (arith, ltb-false index s.first is_before, ltb-false (index - s.first) (length s.times) is_within)) is all.0, all.1)

-- a noted number is its index times the spacing
number_is : (backward n : ℕ) → is_noted backward n ≡ true → index_of backward n * spacing_of backward ≡ n
number_is backward n noted = by_test (nat_le backward 1000) noted
  where
    by_test : (b : Bool) → eqb (n % cond b 4 8) 0 ≡ true → n / cond b 4 8 * cond b 4 8 ≡ n
    by_test true is = omega (arith, eqb-true (n % 4) 0 is)
    by_test false is = omega (arith, eqb-true (n % 8) 0 is)

pub never_contradicts : (time_of : ℕ → ℕ) (s : Noted) (x : NotedTime) → IsTimeOf time_of x → AreTimesOf time_of s → contradicts s x ≡ false
never_contradicts time_of s x mine times = by_test (is_noted s.backward x.number) (nat_le s.first (index_of s.backward x.number)) refl refl
  where
    same : (time : Option ℕ) → IfSome time (λ t. t ≡ x.time) → is_another time x.time ≡ false
    same None is = refl
    same (Some t) is = ap not (eq-eqb t x.time is)

    by_test : (noted after : Bool) → is_noted s.backward x.number ≡ noted → nat_le s.first (index_of s.backward x.number) ≡ after → contradicts s x ≡ false
    by_test false after is_noted_is is_after = rw is_noted_is refl
    by_test true false is_noted_is is_after = rw (is_noted_is, is_after) refl
    by_test true true is_noted_is is_after =
        let index : ℕ = index_of s.backward x.number in
        let there = looked_up time_of (spacing_of s.backward) s.first s.times (index - s.first) times.0 in
        let number : (s.first + (index - s.first)) * spacing_of s.backward ≡ x.number =
        ap (λ (n : ℕ). n * spacing_of s.backward) (omega (arith, leb-true s.first index is_after)) ∙ number_is s.backward x.number is_noted_is in
        rw (is_noted_is, is_after) (same (slice_index_or s.times (index - s.first) None)
        (subst (λ (t : ℕ). IfSome (slice_index_or s.times (index - s.first) None) (λ u. u ≡ t)) (ap time_of number ∙ sym mine) there))

pub still_times : (time_of : ℕ → ℕ) (s : Noted) (x : NotedTime) → IsTimeOf time_of x → AreTimesOf time_of s → AreTimesOf time_of (noted_with s x)
still_times time_of s x mine times = by_test (is_noted s.backward x.number) refl
  where
    by_test : (b : Bool) → is_noted s.backward x.number ≡ b → AreTimesOf time_of (noted_with s x)
    by_test true is = rw is (at_index time_of (places_for s.backward) (index_of s.backward x.number) x.time s (mine ∙ ap time_of (sym (number_is s.backward x.number is))) times)
    by_test false is = rw is times

-- no packet is of a former sender, if none is remembered
pub none_of_former : (rate : ℕ) (s : Noted) (begins : Option NotedTime) (low time : ℕ) → s.former ≡ None → is_of_former rate s begins low time ≡ false
none_of_former rate s begins low time none = ap (λ (former : Option FormerSender). is_of_former_by rate s former begins low time) none

-- a noted time leaves the former sender
pub noted_former : (s : Noted) (x : NotedTime) → (noted_with s x).former ≡ s.former
noted_former s x = by_tests (is_noted s.backward x.number) (nat_lt index s.first) (nat_lt (index - s.first) (length s.times))
  where
    index : ℕ
    index = index_of s.backward x.number

    most : ℕ
    most = places_for s.backward

    by_tests : (noted before within : Bool)
        → (cond noted (cond before s (cond within (record s { times = slice_set s.times (index - s.first) (Some x.time) }) (appended_to most index x.time s))) s).former ≡ s.former
    by_tests false before within = refl
    by_tests true true within = refl
    by_tests true false true = refl
    by_tests true false false = refl
