-- Moments of a clock.
use Rattle.std.proofs.Common.{◌≡◌, ℕ, ◌+◌, ◌^◌, ◌≤◌, ◌||◌, Bool, true, false, cond, Option, Some, None, refl, arith, nat_le, nat_lt}
use Rattle.std.proofs.lemmas.Bool.Decides.{nat_tests}
use Rattle.codec_payload_feedback_requests.specs.Requests.{earlier, has_come, later}

-- a moment that has come and lies the given number of ticks after another
pub come_later : (last ticks now : ℕ) → has_come (later last ticks) now ≡ true → last + ticks ≤ now
come_later last ticks now come = by_test (nat_lt (last + ticks) (2 ^ 64)) come
  where
    by_test : (b : Bool) → has_come (cond b (Some (last + ticks)) None) now ≡ true → last + ticks ≤ now
    by_test true is = grind (arith, nat_tests)
    by_test false is = cc

-- the earlier of two moments has come once one has
pub come_earlier : (a b : Option ℕ) (now : ℕ) → has_come (earlier a b) now ≡ (has_come a now || has_come b now)
come_earlier None b now = refl
come_earlier (Some a) None now = by_test (nat_le a now)
  where
    by_test : (t : Bool) → t ≡ (t || false)
    by_test true = refl
    by_test false = refl
come_earlier (Some a) (Some b) now = by_test (nat_le a b) refl
  where
    by_test : (t : Bool) → nat_le a b ≡ t → has_come (cond t (Some a) (Some b)) now ≡ (nat_le a now || nat_le b now)
    by_test true is = grind (arith, nat_tests)
    by_test false is = grind (arith, nat_tests)
