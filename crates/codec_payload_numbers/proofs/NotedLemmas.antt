-- How many times are noted.
use Rattle.std.proofs.Common.{◌≡◌, refl, cond, zero, suc, ℕ, ◌+◌, ◌-◌, ◌≤◌, List, [], ◌∷◌, ◌++◌, drop, length, length-append, length-drop, Bool, true, false, Option, None, arith, min}
use Rattle.std.specs.Prelude.{nat_lt}
use Rattle.std.proofs.lemmas.Bool.{ltb-true, ltb-false, lt-ltb, le-ltb}
use Rattle.codec_payload_numbers.specs.NotedTimes.{Noted, gone_on, pushed_time, room_for, skipped}

pub length_pushed : (most : ℕ) (time : Option ℕ) (times : List (Option ℕ)) → length (pushed_time most time times) ≤ length times + 1
length_pushed most time times = by_test (nat_lt (length times) most)
  where
    by_test : (b : Bool) → length (cond b times (drop 1 times) ++ (time ∷ [])) ≤ length times + 1
    by_test true = omega (arith, length-append times (time ∷ []))
    by_test false = omega (arith, length-append (drop 1 times) (time ∷ []), length-drop 1 times)

length_skipped : (most gap : ℕ) (times : List (Option ℕ)) → length (skipped most gap times) ≤ length times + gap
length_skipped most zero times = omega arith
length_skipped most (suc gap) times = omega (arith, length_pushed most None (skipped most gap times), length_skipped most gap times)

pub length_gone_on : (most gap : ℕ) (times : List (Option ℕ)) → length (gone_on most gap times) ≤ length times + gap
length_gone_on most gap times = by_test (nat_lt gap most)
  where
    by_test : (b : Bool) → length (cond b (skipped most gap times) []) ≤ length times + gap
    by_test true = length_skipped most gap times
    by_test false = omega arith

-- the time after a gap finds room
pub finds_room : (index most : ℕ) (s : Noted) → 1 ≤ most → s.first + length s.times ≤ index
    → min (length (gone_on most (index - s.first - length s.times) s.times) + 1) most ≤ room_for index most s
finds_room index most s some after = by_test (nat_lt (index - s.first - length s.times) most) refl
  where
    by_test : (b : Bool) → nat_lt (index - s.first - length s.times) most ≡ b
        → min (length (gone_on most (index - s.first - length s.times) s.times) + 1) most ≤ room_for index most s
    by_test true is =
        let near : nat_lt (index - s.first) (length s.times + most) ≡ true = lt-ltb (index - s.first) (length s.times + most) (omega (arith, ltb-true (index - s.first - length s.times) most is)) in
        rw near (omega (arith, ltb-true (index - s.first - length s.times) most is, length_gone_on most (index - s.first - length s.times) s.times))
    by_test false is =
        let far : nat_lt (index - s.first) (length s.times + most) ≡ false = le-ltb (index - s.first) (length s.times + most) (omega (arith, ltb-false (index - s.first - length s.times) most is)) in
        rw (is, far) (omega (arith, some))
