-- Extended numbers are the true ones, moved by one constant.
use Rattle.std.proofs.Common.{◌≡◌, ◌∙◌, refl, ap, sym, ℕ, ◌+◌, ◌-◌, ◌*◌, ◌/◌, ◌%◌, ◌^◌, ◌<◌, ◌≤◌, List, [], ◌∷◌, map, Bool, true, false, Some, None, arith, max, Option, inl, inr, cond}
use Rattle.codec_payload_numbers.specs.declared.numbers.Extended.{Extended}
use Rattle.codec_payload_numbers.specs.declared.numbers.Extended.TheVariants as extended
use Rattle.std.specs.Prelude.{nat_lt, nat_le}
use Rattle.std.proofs.lemmas.Bool.{lt-ltb, le-ltb, le-leb, lt-leb, leb-true, cases_lt}
use Rattle.codec_payload_numbers.specs.Numbers.{Numbering, ahead, behind, fitting, answer_near, answer_for, number_in, number_for, numbers_for, StayNear, low_bits, AreTrueNumbers, answer_by}
use Rattle.codec_payload_numbers.specs.Numbers.{NeverMixAnew, AreTrueBegun, answer_anew, numbering_with, greater, is_restarting, follows_suspect, StartsAnew, AllGivenAbove, NeverMix, FitAnew, moved_by, AreTrueAnew, GoOn, NoneRestarts}

-- a true number at or above the highest one
ahead_is : (x g t q : ℕ) → x + 65536 * q ≡ g + 65536 → g ≤ t → t < g + 65536 → ahead x (t % 65536) ≡ t - g
ahead_is x g t q is from to = omega arith

-- a true number below it
behind_is : (x g t q : ℕ) → x + 65536 * q ≡ g + 65536 → t < g → g < t + 65536 → behind x (t % 65536) ≡ g - t
behind_is x g t q is below near = omega arith

ahead_far : (x g t q : ℕ) → x + 65536 * q ≡ g + 65536 → t < g → g < t + 65536 → ahead x (t % 65536) ≡ 65536 + t - g
ahead_far x g t q is below near = omega arith

-- the answer within the forward window
ahead_given : (s : Numbering) (x n v : ℕ) → ahead x n < s.forward → x + ahead x n ≡ v → v < 2 ^ 64 → answer_near s x n ≡ extended.Number v
ahead_given s x n v within is fits = rw (lt-ltb (ahead x n) s.forward within, is, lt-ltb v (2 ^ 64) fits) refl

-- and the answer within the backward window
behind_given : (s : Numbering) (x n v : ℕ) → s.forward ≤ ahead x n → behind x n ≤ s.backward → x - behind x n ≡ v → answer_near s x n ≡ extended.Number v
behind_given s x n v far within is = rw (le-ltb (ahead x n) s.forward far, le-leb (behind x n) s.backward within, is) refl

-- the number of the next packet
near_is : (s : Numbering) (x g t q : ℕ) → s.forward + s.backward ≤ 65536 → s.backward < s.forward → x + 65536 * q ≡ g + 65536 → 65536 * q ≤ g → t < g + s.forward
    → g ≤ t + s.backward → t + 65536 < 2 ^ 64
    → answer_near s x (t % 65536) ≡ extended.Number (t + 65536 - 65536 * q)
near_is s x g t q apart order is below up down fits = elim (cases_lt t g) [
  | inr from ↦
      let there : ahead x (t % 65536) ≡ t - g = ahead_is x g t q is from (omega arith) in
      ahead_given s x (t % 65536) (t + 65536 - 65536 * q) (omega (arith, there)) (omega (arith, there)) (omega arith)
  | inl under ↦
      let there : ahead x (t % 65536) ≡ 65536 + t - g = ahead_far x g t q is under (omega arith) in
      let back : behind x (t % 65536) ≡ g - t = behind_is x g t q is under (omega arith) in
      behind_given s x (t % 65536) (t + 65536 - 65536 * q) (omega (arith, there)) (omega (arith, back)) (omega (arith, back))
]

-- the windows, with the highest number so far
abbrev pub at_greatest : ℕ → ℕ → ℕ → Numbering
at_greatest forward backward x = record { greatest = Some x; suspect = None; forward = forward; backward = backward }

greatest_moved : (x g t q : ℕ) → x + 65536 * q ≡ g + 65536 → 65536 * q ≤ t + 65536 → max x (t + 65536 - 65536 * q) + 65536 * q ≡ max g t + 65536
greatest_moved x g t q is below = omega arith

numbers_on : (forward backward x g q : ℕ) (ts : List ℕ) → forward + backward ≤ 65536 → backward < forward → x + 65536 * q ≡ g + 65536 → 65536 * q ≤ g → StayNear forward backward g ts
    → numbers_for (at_greatest forward backward x) (map low_bits ts) ≡ map (λ t. Some (t + 65536 - 65536 * q)) ts
numbers_on forward backward x g q [] apart order is below near = refl
numbers_on forward backward x g q (t ∷ ts) apart order is below near =
    let one : answer_near (at_greatest forward backward x) x (t % 65536) ≡ extended.Number (t + 65536 - 65536 * q) =
    near_is (at_greatest forward backward x) x g t q apart order is below near.0 near.1 near.2 in
    rw one (ap (λ (rest : List (Option ℕ)). Some (t + 65536 - 65536 * q) ∷ rest)
    (numbers_on forward backward (max x (t + 65536 - 65536 * q)) (max g t) q ts apart order (greatest_moved x g t q is (omega (arith, near.1))) (omega arith) near.3))

pub are_true_numbers : AreTrueNumbers
are_true_numbers forward backward kept first ts fits near =
    let first_is : 65536 + first % 65536 ≡ first + 65536 - 65536 * (first / 65536) = omega arith in
    rw first_is (ap (λ (rest : List (Option ℕ)). Some (first + 65536 - 65536 * (first / 65536)) ∷ rest)
    (numbers_on forward backward (first + 65536 - 65536 * (first / 65536)) first (first / 65536) ts kept.apart kept.order (omega arith) (omega arith) near))

goes_on : (forward backward x g q : ℕ) (ts : List ℕ) → forward + backward ≤ 65536 → backward < forward → x + 65536 * q ≡ g + 65536 → 65536 * q ≤ g → StayNear forward backward g ts
    → GoOn (at_greatest forward backward x) (map low_bits ts)
goes_on forward backward x g q [] apart order is below near = tt
goes_on forward backward x g q (t ∷ ts) apart order is below near =
    let one : answer_near (at_greatest forward backward x) x (t % 65536) ≡ extended.Number (t + 65536 - 65536 * q) =
    near_is (at_greatest forward backward x) x g t q apart order is below near.0 near.1 near.2 in
    rw one (refl, goes_on forward backward (max x (t + 65536 - 65536 * q)) (max g t) q ts apart order (greatest_moved x g t q is (omega (arith, near.1))) (omega arith) near.3)

pub none_restarts : NoneRestarts
none_restarts forward backward kept first ts fits near =
    let first_is : 65536 + first % 65536 ≡ first + 65536 - 65536 * (first / 65536) = omega arith in
    rw first_is (refl, goes_on forward backward (first + 65536 - 65536 * (first / 65536)) first (first / 65536) ts kept.apart kept.order (omega arith) (omega arith) near)

-- Senders that restart

near_as : (x v : ℕ) → number_in (fitting extended.Number x) ≡ Some v → x ≡ v
near_as x v is = by_test (nat_lt x (2 ^ 64)) is
  where
    by_test : (b : Bool) → number_in (cond b (extended.Number x) extended.Spent) ≡ Some v → x ≡ v
    by_test true same = cc
    by_test false same = cc

anew_as : (x v : ℕ) → number_in (fitting extended.Restarted x) ≡ Some v → x ≡ v
anew_as x v is = by_test (nat_lt x (2 ^ 64)) is
  where
    by_test : (b : Bool) → number_in (cond b (extended.Restarted x) extended.Spent) ≡ Some v → x ≡ v
    by_test true same = cc
    by_test false same = cc

anew_is : (s : Numbering) (g n : ℕ) → StartsAnew s g n → answer_for s n ≡ extended.Restarted (is_restarting g n)
anew_is s g n starts =
    rw (starts.greatest, le-ltb (ahead g n) s.forward starts.ahead, lt-leb (behind g n) s.backward starts.behind, starts.follows, lt-ltb (is_restarting g n) (2 ^ 64) starts.fits) refl

-- far above all earlier numbers
anew_above : (g n k : ℕ) → k ≤ ahead g n → n < 65536 → g + k ≤ is_restarting g n
anew_above g n k far low = omega arith

-- a given number is above all numbers that are more than the window below the highest one
given_by : (s : Numbering) (h n v g : ℕ) (a b f : Bool) → nat_lt (ahead h n) s.forward ≡ a → nat_le (behind h n) s.backward ≡ b → follows_suspect s.suspect n ≡ f
    → g + s.forward ≤ h → 0 < s.forward → s.backward < s.forward → number_in (answer_near s h n) ≡ Some v → g < v
given_by s h n v g true b f is_near is_back is_next below some order is = let v_is : h + ahead h n ≡ v = near_as (h + ahead h n) v (rw is_near at is) in omega (arith, v_is, below, some)
given_by s h n v g false true f is_near is_back is_next below some order is =
    let v_is : number_in (extended.Number (h - behind h n)) ≡ Some v = rw (is_near, is_back) at is in
    let same : h - behind h n ≡ v = cc in
    let back : behind h n ≤ s.backward = leb-true (behind h n) s.backward is_back in
    omega (arith, same, back, below, some, order)
given_by s h n v g false false true is_near is_back is_next below some order is =
    let v_is : is_restarting h n ≡ v = anew_as (is_restarting h n) v (rw (is_near, is_back, is_next) at is) in
    let up : h ≤ is_restarting h n = omega arith in
    omega (arith, v_is, up, below, some)
given_by s h n v g false false false is_near is_back is_next below some order is = let no_number = rw (is_near, is_back, is_next) at is in cc

given_above : (s : Numbering) (h n v g : ℕ) → s.greatest ≡ Some h → g + s.forward ≤ h → 0 < s.forward → s.backward < s.forward → number_for s n ≡ Some v → g < v
given_above s h n v g greatest below some order is =
    given_by s h n v g (nat_lt (ahead h n) s.forward) (nat_le (behind h n) s.backward) (follows_suspect s.suspect n) refl refl refl below some order
    (ap (λ (o : Option ℕ). number_in (answer_by s o n)) (sym greatest) ∙ is)

all_above : (ns : List ℕ) (s : Numbering) (h g : ℕ) → s.greatest ≡ Some h → g + s.forward ≤ h → 0 < s.forward → s.backward < s.forward → AllGivenAbove g (numbers_for s ns)
all_above [] s h g greatest below some order = tt
all_above (n ∷ ns) s h g greatest below some order = by_answer (λ t k. all_above ns t k g) (answer_for s n) refl
  where
    by_answer : ((t : Numbering) (k : ℕ) → t.greatest ≡ Some k → g + t.forward ≤ k → 0 < t.forward → t.backward < t.forward → AllGivenAbove g (numbers_for t ns))
        → (a : Extended) → answer_for s n ≡ a → AllGivenAbove g (number_in a ∷ numbers_for (numbering_with s a n) ns)
    by_answer later extended.Suspect is = later (record s { suspect = Some n }) h greatest below some order
    by_answer later extended.Spent is = later s h greatest below some order
    by_answer later (extended.Number v) is = (
      given_above s h n v g greatest below some order (ap number_in is),
      later (record s { greatest = Some (greater s.greatest v) }) (max h v) (ap (λ (o : Option ℕ). Some (greater o v)) greatest) (omega arith) some order,
    )
    by_answer later (extended.Restarted v) is = (
      given_above s h n v g greatest below some order (ap number_in is),
      later (record s { greatest = Some (greater s.greatest v); suspect = None }) (max h v) (ap (λ (o : Option ℕ). Some (greater o v)) greatest) (omega arith) some order,
    )

pub never_mix : NeverMix
never_mix s g n ns kept starts =
    let far : g + s.forward ≤ is_restarting g n = anew_above g n s.forward starts.ahead starts.low in
    rw (anew_is s g n starts) (
      omega (arith, far, kept.some),
      all_above ns (record s { greatest = Some (greater s.greatest (is_restarting g n)); suspect = None }) (max g (is_restarting g n)) g
          (ap (λ (o : Option ℕ). Some (greater o (is_restarting g n))) starts.greatest) (omega (arith, far)) kept.some kept.order,
    )

-- The same with any constant

ahead_by : (x g t up first : ℕ) → up % 65536 ≡ first % 65536 → x + first ≡ g + up → g ≤ t → t < g + 65536 → ahead x (t % 65536) ≡ t - g
ahead_by x g t up first same is from to = omega arith

behind_by : (x g t up first : ℕ) → up % 65536 ≡ first % 65536 → x + first ≡ g + up → t < g → g < t + 65536 → behind x (t % 65536) ≡ g - t
behind_by x g t up first same is below near = omega arith

far_by : (x g t up first : ℕ) → up % 65536 ≡ first % 65536 → x + first ≡ g + up → t < g → g < t + 65536 → ahead x (t % 65536) ≡ 65536 + t - g
far_by x g t up first same is below near = omega arith

near_by : (s : Numbering) (x g t up first : ℕ) → s.forward + s.backward ≤ 65536 → s.backward < s.forward → up % 65536 ≡ first % 65536 → x + first ≡ g + up → first ≤ g → 65536 ≤ up
    → t < g + s.forward → g ≤ t + s.backward → t + up < 2 ^ 64 + first → answer_near s x (t % 65536) ≡ extended.Number (t + up - first)
near_by s x g t up first apart order same is from high ahead_g behind_g fits = elim (cases_lt t g) [
  | inr over ↦
      let there : ahead x (t % 65536) ≡ t - g = ahead_by x g t up first same is over (omega arith) in
      ahead_given s x (t % 65536) (t + up - first) (omega (arith, there)) (omega (arith, there)) (omega arith)
  | inl under ↦
      let there : ahead x (t % 65536) ≡ 65536 + t - g = far_by x g t up first same is under (omega arith) in
      let back : behind x (t % 65536) ≡ g - t = behind_by x g t up first same is under (omega arith) in
      behind_given s x (t % 65536) (t + up - first) (omega (arith, there)) (omega (arith, back)) (omega (arith, back))
]

greatest_by : (x g t up first : ℕ) → x + first ≡ g + up → first ≤ t + up → max x (t + up - first) + first ≡ max g t + up
greatest_by x g t up first is from = omega arith

numbers_by : (ts : List ℕ) (s : Numbering) (x g up first : ℕ) → s.greatest ≡ Some x → s.forward + s.backward ≤ 65536 → s.backward < s.forward
    → up % 65536 ≡ first % 65536 → x + first ≡ g + up → first ≤ g → 65536 ≤ up
    → FitAnew up first ts → StayNear s.forward s.backward g ts → numbers_for s (map low_bits ts) ≡ map (moved_by up first) ts
numbers_by [] s x g up first greatest apart order same is from high fits near = refl
numbers_by (t ∷ ts) s x g up first greatest apart order same is from high fits near =
    let one : answer_for s (t % 65536) ≡ extended.Number (t + up - first) =
    ap (λ (o : Option ℕ). answer_by s o (t % 65536)) greatest ∙ near_by s x g t up first apart order same is from high near.0 near.1 fits.0 in
    rw one (ap (λ (rest : List (Option ℕ)). Some (t + up - first) ∷ rest)
    (numbers_by ts (record s { greatest = Some (greater s.greatest (t + up - first)) }) (max x (t + up - first)) (max g t) up first
    (ap (λ (o : Option ℕ). Some (greater o (t + up - first))) greatest) apart order same (greatest_by x g t up first is (omega (arith, near.1))) (omega arith) high fits.1 near.3))

pub are_true_anew : AreTrueAnew
are_true_anew s g first ts kept starts fits near =
    let n = first % 65536 in
    let up : ℕ = is_restarting g n in
    let far : g ≤ up = let f = anew_above g n s.forward starts.ahead starts.low in omega (arith, f) in
    let top : max g up ≡ up = omega (arith, far) in
    let same : up % 65536 ≡ first % 65536 = omega arith in
    let moved_first : Some up ≡ moved_by up first first = ap (λ (k : ℕ). Some k) (omega arith) in
    rw (anew_is s g n starts) (ap (λ (o : Option ℕ). o ∷ numbers_for (record s { greatest = Some (greater s.greatest up); suspect = None }) (map low_bits ts)) moved_first
    ∙ ap (λ (rest : List (Option ℕ)). moved_by up first first ∷ rest)
    (numbers_by ts (record s { greatest = Some (greater s.greatest up); suspect = None }) up first up first
    (ap (λ (o : Option ℕ). Some (greater o up)) starts.greatest ∙ ap (λ (k : ℕ). Some k) top) kept.apart kept.order same (omega arith) (omega arith) (omega arith) fits.1 near))

-- The same for an announced restart

anew_given : (s : Numbering) (g n : ℕ) → s.greatest ≡ Some g → is_restarting g n < 2 ^ 64 → answer_anew s n ≡ extended.Restarted (is_restarting g n)
anew_given s g n greatest fits = rw (greatest, lt-ltb (is_restarting g n) (2 ^ 64) fits) refl

far_above : (g n k : ℕ) → k ≤ 65536 → g + k ≤ is_restarting g n
far_above g n k most = omega arith

pub never_mix_anew : NeverMixAnew
never_mix_anew s g n ns kept greatest low fits =
    let far : g + s.forward ≤ is_restarting g n = far_above g n s.forward (omega (arith, kept.apart)) in
    rw (anew_given s g n greatest fits) (
      refl,
      omega (arith, far, kept.some),
      all_above ns (record s { greatest = Some (greater s.greatest (is_restarting g n)); suspect = None }) (max g (is_restarting g n)) g
          (ap (λ (o : Option ℕ). Some (greater o (is_restarting g n))) greatest) (omega (arith, far)) kept.some kept.order,
    )

pub are_true_begun : AreTrueBegun
are_true_begun s g first ts kept greatest fits_first fits near =
    let n = first % 65536 in
    let up : ℕ = is_restarting g n in
    let far : g + s.forward ≤ up = far_above g n s.forward (omega (arith, kept.apart)) in
    let top : max g up ≡ up = omega (arith, far) in
    let same : up % 65536 ≡ first % 65536 = omega arith in
    rw (anew_given s g n greatest fits_first)
    (numbers_by ts (record s { greatest = Some (greater s.greatest up); suspect = None }) up first up first
    (ap (λ (o : Option ℕ). Some (greater o up)) greatest ∙ ap (λ (k : ℕ). Some k) top) kept.apart kept.order same (omega arith) (omega arith) (omega arith) fits near)
