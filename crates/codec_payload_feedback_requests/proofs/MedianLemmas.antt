-- The median lies where most samples are.
use Rattle.std.proofs.Common.{◌≡◌, ℕ, ◌+◌, ◌-◌, ◌*◌, ◌<◌, ◌≤◌, ◌&&◌, ◌||◌, ◌==◌, Bool, true, false, cond, List, [], ◌∷◌, length, Option, Some, None, refl, arith, nat_le, nat_lt}
use Rattle.std.proofs.lemmas.Bool.Decides.{nat_tests}
use Rattle.codec_payload_feedback_requests.specs.Requests.{earlier}
use Rattle.codec_payload_feedback_requests.specs.NackRuns.{is_in}
use Rattle.codec_payload_feedback_requests.specs.RoundTrips.{LiesWithin, at_most, count_within, is_most, is_within, least_most, median}

-- ---- counts

at_most_all : (m : ℕ) (xs : List ℕ) → at_most m xs ≤ length xs
at_most_all m [] = omega arith
at_most_all m (x ∷ xs) = by_test (nat_le x m) (at_most_all m xs)
  where
    by_test : (t : Bool) → at_most m xs ≤ length xs → cond t (at_most m xs + 1) (at_most m xs) ≤ length (x ∷ xs)
    by_test true rest = omega (arith, rest)
    by_test false rest = omega (arith, rest)

-- a sample below the range: no sample counts as at most it and as within the range
apart_below : (a b m : ℕ) (xs : List ℕ) → m < a → count_within a b xs + at_most m xs ≤ length xs
apart_below a b m [] below = omega arith
apart_below a b m (x ∷ xs) below = by_tests (nat_le a x) refl (nat_le x b) (nat_le x m) refl (apart_below a b m xs below)
  where
    by_tests : (s : Bool) → nat_le a x ≡ s → (t : Bool) → (u : Bool) → nat_le x m ≡ u → count_within a b xs + at_most m xs ≤ length xs
        → cond (s && t) (count_within a b xs + 1) (count_within a b xs) + cond u (at_most m xs + 1) (at_most m xs) ≤ length (x ∷ xs)
    by_tests true above true true is rest = absurd (grind (arith, nat_tests))
    by_tests true above true false is rest = omega (arith, rest)
    by_tests true above false true is rest = omega (arith, rest)
    by_tests true above false false is rest = omega (arith, rest)
    by_tests false above t true is rest = omega (arith, rest)
    by_tests false above t false is rest = omega (arith, rest)

more_below : (g x : ℕ) (xs : List ℕ) → g ≤ x → at_most g xs ≤ at_most x xs
more_below g x [] above = omega arith
more_below g x (y ∷ ys) above = by_tests (nat_le y g) refl (nat_le y x) refl (more_below g x ys above)
  where
    by_tests : (s : Bool) → nat_le y g ≡ s → (t : Bool) → nat_le y x ≡ t → at_most g ys ≤ at_most x ys
        → cond s (at_most g ys + 1) (at_most g ys) ≤ cond t (at_most x ys + 1) (at_most x ys)
    by_tests true low true is rest = omega (arith, rest)
    by_tests true low false is rest = absurd (grind (arith, nat_tests))
    by_tests false low true is rest = omega (arith, rest)
    by_tests false low false is rest = omega (arith, rest)

one_more : (g x : ℕ) (xs : List ℕ) → at_most g xs ≤ at_most g (x ∷ xs)
one_more g x xs = by_test (nat_le x g)
  where
    by_test : (t : Bool) → at_most g xs ≤ cond t (at_most g xs + 1) (at_most g xs)
    by_test true = omega arith
    by_test false = omega arith

own_counts : (g x : ℕ) (xs : List ℕ) → x ≤ g → at_most g (x ∷ xs) ≡ at_most g xs + 1
own_counts g x xs below = let is : nat_le x g ≡ true = grind (arith, nat_tests) in rw is refl

-- ---- the greatest sample within the range

pub record IsGreatest (a b : ℕ) (xs : List ℕ) (g : ℕ) : Type 0 where
  pub member : is_in g xs ≡ true
  pub least : a ≤ g
  pub most : g ≤ b
  pub covers : count_within a b xs ≤ at_most g xs

in_front : (x : ℕ) (xs : List ℕ) → is_in x (x ∷ xs) ≡ true
in_front x xs = let same : (x == x) ≡ true = grind (arith, nat_tests) in rw same refl

in_rest : (g x : ℕ) (xs : List ℕ) → is_in g xs ≡ true → is_in g (x ∷ xs) ≡ true
in_rest g x xs is = by_test (x == g)
  where
    by_test : (t : Bool) → (t || is_in g xs) ≡ true
    by_test true = refl
    by_test false = is

greatest_if : (a b x g : ℕ) (xs : List ℕ) → a ≤ x → x ≤ b → is_within a b x ≡ true → IsGreatest a b xs g → (t : Bool) → nat_le x g ≡ t
    → (h : ℕ) × IsGreatest a b (x ∷ xs) h
greatest_if a b x g xs above below within is true low =
    let under : x ≤ g = grind (arith, nat_tests) in (
      g,
      record {
        member = in_rest g x xs is.member;
        least = is.least;
        most = is.most;
        covers = rw within (omega (arith, is.covers, own_counts g x xs under));
      },
    )
greatest_if a b x g xs above below within is false low =
    let over : g ≤ x = grind (arith, nat_tests) in (
      x,
      record {
        member = in_front x xs;
        least = above;
        most = below;
        covers = rw within (omega (arith, is.covers, more_below g x xs over, own_counts x x xs (omega arith)));
      },
    )

abbrev pub Greatest : ℕ → ℕ → List ℕ → Type 0
Greatest a b xs = (g : ℕ) × IsGreatest a b xs g

alone : (a b x : ℕ) (xs : List ℕ) → a ≤ x → x ≤ b → is_within a b x ≡ true → count_within a b xs ≤ 0 → Greatest a b (x ∷ xs)
alone a b x xs above below within none = (
  x,
  record {
    member = in_front x xs;
    least = above;
    most = below;
    covers = rw within (omega (arith, none, own_counts x x xs (omega arith)));
  },
)

among : (a b x : ℕ) (xs : List ℕ) → a ≤ x → x ≤ b → is_within a b x ≡ true → (t : Bool) → nat_lt 0 (count_within a b xs) ≡ t
    → (0 < count_within a b xs → Greatest a b xs) → Greatest a b (x ∷ xs)
among a b x xs above below within true more rest =
    let (g, is) = rest (grind (arith, nat_tests)) in greatest_if a b x g xs above below within is (nat_le x g) refl
among a b x xs above below within false none rest = alone a b x xs above below within (grind (arith, nat_tests))

greatest_by : (a b x : ℕ) (xs : List ℕ) (t : Bool) → is_within a b x ≡ t → 0 < cond t (count_within a b xs + 1) (count_within a b xs)
    → (0 < count_within a b xs → Greatest a b xs) → Greatest a b (x ∷ xs)
greatest_by a b x xs true is more rest =
    let above : a ≤ x = grind (arith, nat_tests) in
    let below : x ≤ b = grind (arith, nat_tests) in among a b x xs above below is (nat_lt 0 (count_within a b xs)) refl rest
greatest_by a b x xs false is more rest =
    let (g, found) = rest more in (
      g,
      record {
        member = in_rest g x xs found.member;
        least = found.least;
        most = found.most;
        covers = rw is (omega (arith, found.covers, one_more g x xs));
      },
    )

greatest : (a b : ℕ) (xs : List ℕ) → 0 < count_within a b xs → Greatest a b xs
greatest a b [] some = absurd (omega (arith, some))
greatest a b (x ∷ xs) some = greatest_by a b x xs (is_within a b x) refl some (λ more. greatest a b xs more)

-- ---- the least candidate

abbrev pub CoversMost : List ℕ → Option ℕ → Type 0
CoversMost xs None = Unit {0}
CoversMost xs (Some m) = is_most m xs ≡ true

abbrev pub IsBelow : ℕ → Option ℕ → Type 0
IsBelow c None = ⊥
IsBelow c (Some m) = m ≤ c

earlier_covers : (xs : List ℕ) (o p : Option ℕ) → CoversMost xs o → CoversMost xs p → CoversMost xs (earlier o p)
earlier_covers xs None p one other = other
earlier_covers xs (Some m) None one other = one
earlier_covers xs (Some m) (Some n) one other = by_test (nat_le m n)
  where
    by_test : (t : Bool) → CoversMost xs (cond t (Some m) (Some n))
    by_test true = one
    by_test false = other

earlier_left : (c : ℕ) (o p : Option ℕ) → IsBelow c o → IsBelow c (earlier o p)
earlier_left c None p is = absurd is
earlier_left c (Some m) None is = is
earlier_left c (Some m) (Some n) is = by_test (nat_le m n) refl
  where
    by_test : (t : Bool) → nat_le m n ≡ t → IsBelow c (cond t (Some m) (Some n))
    by_test true le = is
    by_test false le = grind (arith, nat_tests)

earlier_right : (c : ℕ) (o p : Option ℕ) → IsBelow c p → IsBelow c (earlier o p)
earlier_right c None p is = is
earlier_right c (Some m) None is = absurd is
earlier_right c (Some m) (Some n) is = by_test (nat_le m n) refl
  where
    by_test : (t : Bool) → nat_le m n ≡ t → IsBelow c (cond t (Some m) (Some n))
    by_test true le = grind (arith, nat_tests)
    by_test false le = is

covers_if : (xs : List ℕ) (d : ℕ) (t : Bool) → is_most d xs ≡ t → CoversMost xs (cond t (Some d) None)
covers_if xs d true is = is
covers_if xs d false is = tt

least_covers : (cs xs : List ℕ) → CoversMost xs (least_most cs xs)
least_covers [] xs = tt
least_covers (d ∷ ds) xs =
    earlier_covers xs (cond (is_most d xs) (Some d) None) (least_most ds xs) (covers_if xs d (is_most d xs) refl) (least_covers ds xs)

least_by : (c d : ℕ) (ds xs : List ℕ) → is_most c xs ≡ true → (t : Bool) → (d == c) ≡ t → (t || is_in c ds) ≡ true
    → (is_in c ds ≡ true → IsBelow c (least_most ds xs)) → IsBelow c (earlier (cond (is_most d xs) (Some d) None) (least_most ds xs))
least_by c d ds xs most true same member rest =
    let is : d ≡ c = grind (arith, nat_tests) in earlier_left c (cond (is_most d xs) (Some d) None) (least_most ds xs) (rw (is, most) (omega arith))
least_by c d ds xs most false same member rest = earlier_right c (cond (is_most d xs) (Some d) None) (least_most ds xs) (rest member)

least_below : (c : ℕ) (cs xs : List ℕ) → is_in c cs ≡ true → is_most c xs ≡ true → IsBelow c (least_most cs xs)
least_below c [] xs is most = cc
least_below c (d ∷ ds) xs is most = least_by c d ds xs most (d == c) refl is (λ member. least_below c ds xs member most)

-- ---- the theorem

lies : (a b g : ℕ) (xs : List ℕ) (o : Option ℕ) → length xs < count_within a b xs * 2 → g ≤ b → CoversMost xs o → IsBelow g o → LiesWithin a b o
lies a b g xs None many below covers is = absurd is
lies a b g xs (Some m) many below covers is = (by_test (nat_le a m) refl, omega (arith, is, below))
  where
    most : length xs - at_most m xs < at_most m xs
    most = grind (arith, nat_tests)

    by_test : (t : Bool) → nat_le a m ≡ t → a ≤ m
    by_test true le = grind (arith, nat_tests)
    by_test false le =
        let under : m < a = grind (arith, nat_tests) in absurd (omega (arith, many, most, at_most_all m xs, apart_below a b m xs under))

pub median_lies : (a b : ℕ) (xs : List ℕ) → length xs < count_within a b xs * 2 → LiesWithin a b (median xs)
median_lies a b xs many =
    let (g, is) = greatest a b xs (omega (arith, many)) in
    let more : length xs - at_most g xs < at_most g xs = omega (arith, many, is.covers, at_most_all g xs) in
    let most : is_most g xs ≡ true = grind (arith, nat_tests) in
    lies a b g xs (median xs) many is.most (least_covers xs xs) (least_below g xs xs is.member most)
