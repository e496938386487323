-- No other pairs that name the same numbers are fewer: a pair takes as many of the numbers at the front as any pair can.
use Rattle.std.proofs.Common.{◌≡◌, ℕ, zero, suc, ◌+◌, ◌-◌, ◌/◌, ◌%◌, ◌<◌, ◌≤◌, ◌==◌, ◌⊎◌, inl, inr, List, [], ◌∷◌, ◌++◌, length, Bool, true, false, cond, refl, sym, ap, ◌∙◌, subst, arith, append_assoc}
use Rattle.std.proofs.lemmas.Bool.Decides.{nat_tests}
use Rattle.std.specs.Int.{w16, from_be_bytes}
use Rattle.codec_payload_rtcp.specs.NackNumbers.{marked, numbers_in, after_number, after_numbers}

-- the numbers are the last ones of all
abbrev pub Ends : List ℕ → List ℕ → Type 0
Ends ns all = (front : List ℕ) × (front ++ ns ≡ all)

ends_on : (a b c : List ℕ) → Ends a b → Ends b c → Ends a c
ends_on a b c (front, is) (before, of) = (before ++ front, append_assoc before front a ∙ ap (λ (t : List ℕ). before ++ t) is ∙ of)

number_ends : (number : ℕ) (ns : List ℕ) → Ends (after_number number ns) ns
number_ends number [] = ([], refl)
number_ends number (n ∷ ns) = by_test (n == number)
  where
    by_test : (b : Bool) → Ends (cond b ns (n ∷ ns)) (n ∷ ns)
    by_test true = (n ∷ [], refl)
    by_test false = ([], refl)

numbers_end : (k number : ℕ) (ns : List ℕ) → Ends (after_numbers k number ns) ns
unfolding after_numbers
numbers_end zero number ns = ([], refl)
numbers_end (suc k) number ns =
    ends_on (after_numbers k ((number + 1) % 65536) (after_number number ns)) (after_number number ns) ns
    (numbers_end k ((number + 1) % 65536) (after_number number ns)) (number_ends number ns)

-- the first number whose bit is set
first_of : (j number bits n : ℕ) (ns : List ℕ) → number < 65536 → marked j number bits ≡ n ∷ ns → (i : ℕ) × (i < j) × (n ≡ (number + i) % 65536)
unfolding marked
first_of zero number bits n ns small is = cc
first_of (suc j) number bits n ns small is =
    by_test (bits % 2 == 1) is (λ h. first_of j ((number + 1) % 65536) (bits / 2) n ns (omega arith) h)
  where
    by_test : (b : Bool) → cond b (number ∷ marked j ((number + 1) % 65536) (bits / 2)) (marked j ((number + 1) % 65536) (bits / 2)) ≡ n ∷ ns
        → (marked j ((number + 1) % 65536) (bits / 2) ≡ n ∷ ns → (i : ℕ) × (i < j) × (n ≡ ((number + 1) % 65536 + i) % 65536))
        → (i : ℕ) × (i < suc j) × (n ≡ (number + i) % 65536)
    by_test true is later = let e : number ≡ n = cc in (0, omega arith, omega (arith, e, small))
    by_test false is later = let (i, below, at) = later is in (i + 1, omega (arith, below), omega (arith, at))

number_here : (n : ℕ) (ns : List ℕ) → after_number n (n ∷ ns) ≡ ns
number_here n ns = let same : (n == n) ≡ true = grind (arith, nat_tests) in rw same refl

number_elsewhere : (n m : ℕ) (ns : List ℕ) → (m ≡ n → ⊥) → after_number n (m ∷ ns) ≡ m ∷ ns
number_elsewhere n m ns differ = by_test (m == n) refl
  where
    by_test : (b : Bool) → (m == n) ≡ b → cond b ns (m ∷ ns) ≡ m ∷ ns
    by_test true same = let e : m ≡ n = grind (arith, nat_tests) in absurd (differ e)
    by_test false same = refl

-- what a pair leaves after the bit of a number that it does not mark: the number is not the next one, or it marks none
unmarked : (k j number bits : ℕ) (taken after ns : List ℕ) → j < 16 → number < 65536 → marked j ((number + 1) % 65536) bits ≡ taken → taken ++ after ≡ ns
    → ((ms : List ℕ) → taken ++ after ≡ ms → Ends (after_numbers k ((number + 1) % 65536) ms) after)
    → Ends (after_numbers k ((number + 1) % 65536) (after_number number ns)) after
unmarked k j number bits [] after ns few small marks is later =
    subst (λ (t : List ℕ). Ends (after_numbers k ((number + 1) % 65536) (after_number number ns)) t) (sym is)
    (ends_on (after_numbers k ((number + 1) % 65536) (after_number number ns)) (after_number number ns) ns
    (numbers_end k ((number + 1) % 65536) (after_number number ns)) (number_ends number ns))
unmarked k j number bits (m ∷ taken) after ns few small marks is later =
    let (i, below, at) = first_of j ((number + 1) % 65536) bits m taken (omega arith) marks in
    let differ : m ≡ number → ⊥ = λ e. omega (arith, e, at, below, few, small) in
    let same : after_number number ns ≡ ns = ap (after_number number) (sym is) ∙ number_elsewhere number m (taken ++ after) differ ∙ is in
    rw same (later ns is)

-- a pair that takes numbers from the front leaves at least the numbers that are left here
pub most_taken : (k j number bits : ℕ) (after ns : List ℕ) → j ≤ k → k ≤ 16 → number < 65536 → marked j number bits ++ after ≡ ns → Ends (after_numbers k number ns) after
unfolding marked after_numbers
most_taken zero zero number bits after ns few most small is = ([], sym is)
most_taken zero (suc j) number bits after ns few most small is = absurd (omega (arith, few))
most_taken (suc k) zero number bits after ns few most small is = subst (λ (t : List ℕ). Ends (after_numbers (suc k) number ns) t) (sym is) (numbers_end (suc k) number ns)
most_taken (suc k) (suc j) number bits after ns few most small is =
    by_test (bits % 2 == 1) is
    (λ ms e. most_taken k j ((number + 1) % 65536) (bits / 2) after ms (omega (arith, few)) (omega (arith, most)) (omega arith) e)
  where
    by_test : (b : Bool) → cond b (number ∷ marked j ((number + 1) % 65536) (bits / 2)) (marked j ((number + 1) % 65536) (bits / 2)) ++ after ≡ ns
        → ((ms : List ℕ) → marked j ((number + 1) % 65536) (bits / 2) ++ after ≡ ms → Ends (after_numbers k ((number + 1) % 65536) ms) after)
        → Ends (after_numbers k ((number + 1) % 65536) (after_number number ns)) after
    by_test true is later =
        let same : after_number number ns ≡ marked j ((number + 1) % 65536) (bits / 2) ++ after =
        ap (after_number number) (sym is) ∙ number_here number (marked j ((number + 1) % 65536) (bits / 2) ++ after) in
        rw same (later (marked j ((number + 1) % 65536) (bits / 2) ++ after) refl)
    by_test false is later =
        unmarked k j number (bits / 2) (marked j ((number + 1) % 65536) (bits / 2)) after ns (omega (arith, few, most)) small refl is later

-- the numbers after one that a pair marks are marked by a pair that begins with it
inside : (k number bits n : ℕ) (front ns : List ℕ) → marked k number bits ≡ front ++ n ∷ ns → (j : ℕ) × (c : ℕ) × (j < k) × (ns ≡ marked j ((n + 1) % 65536) c)
unfolding marked
inside zero number bits n [] ns is = cc
inside zero number bits n (f ∷ front) ns is = cc
inside (suc k) number bits n front ns is = by_test (bits % 2 == 1) front is (λ more e. inside k ((number + 1) % 65536) (bits / 2) n more ns e)
  where
    by_test : (b : Bool) (front : List ℕ) → cond b (number ∷ marked k ((number + 1) % 65536) (bits / 2)) (marked k ((number + 1) % 65536) (bits / 2)) ≡ front ++ n ∷ ns
        → ((more : List ℕ) → marked k ((number + 1) % 65536) (bits / 2) ≡ more ++ n ∷ ns → (j : ℕ) × (c : ℕ) × (j < k) × (ns ≡ marked j ((n + 1) % 65536) c))
        → (j : ℕ) × (c : ℕ) × (j < suc k) × (ns ≡ marked j ((n + 1) % 65536) c)
    by_test true [] is later =
        let number_is : number ≡ n = cc in
        let rest : marked k ((number + 1) % 65536) (bits / 2) ≡ ns = cc in
        (k, bits / 2, omega arith, sym rest ∙ ap (λ (m : ℕ). marked k ((m + 1) % 65536) (bits / 2)) number_is)
    by_test true (f ∷ front) is later =
        let rest : marked k ((number + 1) % 65536) (bits / 2) ≡ front ++ n ∷ ns = cc in
        let (j, c, below, at) = later front rest in (j, c, omega (arith, below), at)
    by_test false front is later = let (j, c, below, at) = later front is in (j, c, omega (arith, below), at)

-- two ways to cut a list
cut_twice : (a b c d : List ℕ) → a ++ b ≡ c ++ d → ((x : List ℕ) × (c ≡ a ++ x) × (b ≡ x ++ d)) ⊎ ((y : List ℕ) × (a ≡ c ++ y) × (d ≡ y ++ b))
cut_twice [] b c d is = inl (c, refl, is)
cut_twice (x ∷ a) b [] d is = inr (x ∷ a, refl, sym is)
cut_twice (x ∷ a) b (y ∷ c) d is = shifted x y a b c d is (cut_twice a b c d (tails x y a b c d is))
  where
    tails : (x y : ℕ) (a b c d : List ℕ) → x ∷ (a ++ b) ≡ y ∷ (c ++ d) → a ++ b ≡ c ++ d
    tails x y a b c d is = cc

    shifted : (x y : ℕ) (a b c d : List ℕ) → x ∷ (a ++ b) ≡ y ∷ (c ++ d)
        → ((z : List ℕ) × (c ≡ a ++ z) × (b ≡ z ++ d)) ⊎ ((z : List ℕ) × (a ≡ c ++ z) × (d ≡ z ++ b))
        → ((z : List ℕ) × (y ∷ c ≡ x ∷ (a ++ z)) × (b ≡ z ++ d)) ⊎ ((z : List ℕ) × (x ∷ a ≡ y ∷ (c ++ z)) × (d ≡ z ++ b))
    shifted x y a b c d is (inl (z, front, back)) = inl (z, cc, back)
    shifted x y a b c d is (inr (z, front, back)) = inr (z, cc, back)

-- a pair of the other list, from which more numbers come than are left
pair_ends : (p bits n : ℕ) (front others next : List ℕ) → front ++ n ∷ others ≡ p ∷ (marked 16 ((p + 1) % 65536) bits ++ next)
    → Ends (after_numbers 16 ((n + 1) % 65536) others) next
pair_ends p bits n [] others next is =
    let n_is : p ≡ n = cc in
    let rest : marked 16 ((p + 1) % 65536) bits ++ next ≡ others = cc in
    most_taken 16 16 ((n + 1) % 65536) bits next others (omega arith) (omega arith) (omega arith) (ap (λ (m : ℕ). marked 16 ((m + 1) % 65536) bits ++ next) (sym n_is) ∙ rest)
pair_ends p bits n (f ∷ front) others next is =
    let rest : front ++ n ∷ others ≡ marked 16 ((p + 1) % 65536) bits ++ next = cc in
    either front (cut_twice front (n ∷ others) (marked 16 ((p + 1) % 65536) bits) next rest)
  where
    at_end : (n : ℕ) (others : List ℕ) → Ends (after_numbers 16 ((n + 1) % 65536) others) (n ∷ others)
    at_end n others = ends_on (after_numbers 16 ((n + 1) % 65536) others) others (n ∷ others) (numbers_end 16 ((n + 1) % 65536) others) (n ∷ [], refl)

    either : (front : List ℕ)
        → ((x : List ℕ) × (marked 16 ((p + 1) % 65536) bits ≡ front ++ x) × (n ∷ others ≡ x ++ next)) ⊎ ((y : List ℕ) × (front ≡ marked 16 ((p + 1) % 65536) bits ++ y) × (next ≡ y ++ n ∷ others))
        → Ends (after_numbers 16 ((n + 1) % 65536) others) next
    either front (inl ([], marks, left)) = subst (λ (t : List ℕ). Ends (after_numbers 16 ((n + 1) % 65536) others) t) left (at_end n others)
    either front (inl (x ∷ xs, marks, left)) =
        let x_is : x ≡ n = cc in
        let rest : others ≡ xs ++ next = cc in
        let (j, c, below, at) = inside 16 ((p + 1) % 65536) bits n front xs (marks ∙ ap (λ (m : ℕ). front ++ m ∷ xs) x_is) in
        most_taken 16 j ((n + 1) % 65536) c next others (omega (arith, below)) (omega arith) (omega arith) (ap (λ (t : List ℕ). t ++ next) (sym at) ∙ sym rest)
    either front (inr (y, long, left)) =
        ends_on (after_numbers 16 ((n + 1) % 65536) others) (n ∷ others) next (at_end n others) (y, sym left)

-- one pair more here is at least one pair more there
pub one_pair_less : (n : ℕ) (others other : List ℕ) → Ends (n ∷ others) (numbers_in other)
    → (next : List ℕ) × (length next + 4 ≤ length other) × Ends (after_numbers 16 ((n + 1) % 65536) others) (numbers_in next)
unfolding numbers_in
one_pair_less n others (p1 ∷ p0 ∷ b1 ∷ b0 ∷ pairs) (front, is) =
    (pairs, omega arith, pair_ends (from_be_bytes w16 (p1 ∷ p0 ∷ [])) (from_be_bytes w16 (b1 ∷ b0 ∷ [])) n front others (numbers_in pairs) is)
one_pair_less n others other ([], is) = cc
one_pair_less n others other (f ∷ front, is) = cc

pub after_none : (k number : ℕ) (ns : List ℕ) → k ≡ 0 → ns ≡ after_numbers k number ns
unfolding after_numbers
after_none zero number ns none = refl
after_none (suc k) number ns none = absurd (omega (arith, none))

pub after_one : (k number : ℕ) (ns rest left : List ℕ) → 0 < k → rest ≡ after_number number ns → left ≡ after_numbers (k - 1) ((number + 1) % 65536) rest → left ≡ after_numbers k number ns
unfolding after_numbers
after_one zero number ns rest left some first is = absurd (omega (arith, some))
after_one (suc k) number ns rest left some first is =
    let j : suc k - 1 ≡ k = omega arith in
    is ∙ ap (λ (i : ℕ). after_numbers i ((number + 1) % 65536) rest) j ∙ ap (after_numbers k ((number + 1) % 65536)) first
