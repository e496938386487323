-- What one comparison in a queue in rising order of a number says about the other items.
use Rattle.std.proofs.Common.{◌≡◌, ℕ, zero, suc, ◌<◌, ◌≤◌, ◌+◌, ◌-◌, ◌*◌, [], ◌∷◌, List, length, get_or, refl, ap, ◌∙◌, arith, Bool, true, false, ltb, subst, ◌++◌, sym, length-append, inl, inr}
use Rattle.std.specs.Int.{from_bool}
use Rattle.std.proofs.lemmas.Bool.{ltb-true, ltb-false, cases_lt}
use Rattle.std.proofs.lemmas.List.{get_or_append_left, get_or-append-add, get_or-append_right}
use Rattle.std.specs.List.{AllWithin}
use Rattle.std.specs.List.Sorted.{IsNonDecreasingBy, IsPartitionPoint}

-- within a list the default does not matter
pub same_there : {X : Type 0} (xs : List X) (i : ℕ) (d e : X) → i < length xs → get_or xs i d ≡ get_or xs i e
same_there [] i d e l = absurd (omega arith)
same_there (x ∷ xs) zero d e l = refl
same_there (x ∷ xs) (suc i) d e l = same_there xs i d e (omega arith)

-- up to an item with a lower number all numbers are lower
pub all_below : {X : Type 0} (n : X → ℕ) (xs : List X) (t i : ℕ) (x : X) → IsNonDecreasingBy n xs → i < length xs → x ≡ get_or xs i x → n x < t → AllWithin (λ (y : X). n y < t) xs 0 (i + 1)
all_below n xs t i x rises within is low = λ k d from l.
    let le = rises k i d (omega arith) within in
    let there : n x ≡ n (get_or xs i d) = ap n (is ∙ same_there xs i x d within) in
    omega (arith, le, there, low)

-- from an item with no lower number on no number is lower
pub none_below : {X : Type 0} (n : X → ℕ) (xs : List X) (t i : ℕ) (x : X) → IsNonDecreasingBy n xs → i < length xs → x ≡ get_or xs i x → t ≤ n x → AllWithin (λ (y : X). t ≤ n y) xs i (length xs)
none_below n xs t i x rises within is high = λ k d from l.
    let le = rises i k d from l in
    let there : n x ≡ n (get_or xs i d) = ap n (is ∙ same_there xs i x d within) in
    omega (arith, le, there, high)

-- the place of a number is at most the number of items
pub record IsNarrow {X : Type 0} (n : X → ℕ) (xs : List X) (t low size : ℕ) : Type 0 where
  pub bound : low + size ≤ length xs
  pub below : AllWithin (λ (y : X). n y < t) xs 0 low
  pub behind : AllWithin (λ (y : X). t ≤ n y) xs (low + size) (length xs)

-- an item at or above the place, and one at or below it
lower_end : {X : Type 0} (n : X → ℕ) (xs : List X) (t low size i s : ℕ) (x : X) → IsNonDecreasingBy n xs → IsNarrow n xs t low size → i < low + size → x ≡ get_or xs i x → t ≤ n x
    → i ≤ low + s → s ≤ size → IsNarrow n xs t low s
lower_end n xs t low size i s x rises is within there high le few = record {
  bound = omega (arith, is.bound);
  below = is.below;
  behind = λ k d from l. none_below n xs t i x rises (omega (arith, is.bound)) there high k d (omega arith) l;
}

raise_start : {X : Type 0} (n : X → ℕ) (xs : List X) (t low size i m s : ℕ) (x : X) → IsNonDecreasingBy n xs → IsNarrow n xs t low size → i < low + size → x ≡ get_or xs i x → n x < t
    → m ≤ i + 1 → m + s ≡ low + size → IsNarrow n xs t m s
raise_start n xs t low size i m s x rises is within there less le same = record {
  bound = omega (arith, is.bound);
  below = λ k d from l. all_below n xs t i x rises (omega (arith, is.bound)) there less k d from (omega arith);
  behind = λ k d from l. is.behind k d (omega arith) l;
}

-- numbers of two items in order
in_order : {X : Type 0} (n : X → ℕ) (xs : List X) (i j : ℕ) (x y : X) → IsNonDecreasingBy n xs → i ≤ j → j < length xs → x ≡ get_or xs i x → y ≡ get_or xs j y → n x ≤ n y
in_order n xs i j x y rises le l at_x at_y =
    let e : n x ≡ n (get_or xs i y) = ap n (at_x ∙ same_there xs i x y (omega arith)) in
    let f : n y ≡ n (get_or xs j y) = ap n at_y in
    omega (arith, rises i j y le l, e, f)

narrow_at : {X : Type 0} (n : X → ℕ) (xs : List X) (t low m size : ℕ) → low ≡ m → IsNarrow n xs t low size → IsNarrow n xs t m size
narrow_at n xs t low m size e is = let P : ℕ → Type 0 = λ k. IsNarrow n xs t k size in subst P e is

-- three items in equal distances are compared: how many of them are lower says in which quarter the place is
pub one_quarter : {X : Type 0} (n : X → ℕ) (xs : List X) (t low size q : ℕ) (x y z : X) (a b c : Bool) → IsNonDecreasingBy n xs → IsNarrow n xs t low size → 0 < q → 4 * q ≤ size
    → x ≡ get_or xs (low + q) x → y ≡ get_or xs (low + 2 * q) y → z ≡ get_or xs (low + 3 * q) z → ltb (n x) t ≡ a → ltb (n y) t ≡ b → ltb (n z) t ≡ c
    → IsNarrow n xs t (low + q * (from_bool a + from_bool b + from_bool c)) (size - 3 * q)
one_quarter n xs t low size q x y z false false false rises is some few at_x at_y at_z e f g =
    let high = ltb-false (n x) t e in
    narrow_at n xs t low _ (size - 3 * q) (omega arith) (lower_end n xs t low size (low + q) (size - 3 * q) x rises is (omega arith) at_x high (omega arith) (omega arith))
one_quarter n xs t low size q x y z true false false rises is some few at_x at_y at_z e f g =
    let less = ltb-true (n x) t e in
    let high = ltb-false (n y) t f in
    let up = raise_start n xs t low size (low + q) (low + q) (size - q) x rises is (omega arith) at_x less (omega arith) (omega arith) in
    narrow_at n xs t (low + q) _ (size - 3 * q) (omega arith) (lower_end n xs t (low + q) (size - q) (low + 2 * q) (size - 3 * q) y rises up (omega arith) at_y high (omega arith) (omega arith))
one_quarter n xs t low size q x y z true true false rises is some few at_x at_y at_z e f g =
    let less = ltb-true (n y) t f in
    let high = ltb-false (n z) t g in
    let up = raise_start n xs t low size (low + 2 * q) (low + q * 2) (size - 2 * q) y rises is (omega arith) at_y less (omega arith) (omega arith) in
    narrow_at n xs t (low + q * 2) _ (size - 3 * q) (omega arith) (lower_end n xs t (low + q * 2) (size - 2 * q) (low + 3 * q) (size - 3 * q) z rises up (omega arith) at_z high (omega arith) (omega arith))
one_quarter n xs t low size q x y z true true true rises is some few at_x at_y at_z e f g =
    let less = ltb-true (n z) t g in
    narrow_at n xs t (low + q * 3) _ (size - 3 * q) (omega arith) (raise_start n xs t low size (low + 3 * q) (low + q * 3) (size - 3 * q) z rises is (omega arith) at_z less (omega arith) (omega arith))
one_quarter n xs t low size q x y z false true c rises is some few at_x at_y at_z e f g =
    absurd (omega (arith, in_order n xs (low + q) (low + 2 * q) x y rises (omega arith) (omega (arith, is.bound)) at_x at_y, ltb-false (n x) t e, ltb-true (n y) t f))
one_quarter n xs t low size q x y z false false true rises is some few at_x at_y at_z e f g =
    absurd (omega (arith, in_order n xs (low + q) (low + 3 * q) x z rises (omega arith) (omega (arith, is.bound)) at_x at_z, ltb-false (n x) t e, ltb-true (n z) t g))
one_quarter n xs t low size q x y z true false true rises is some few at_x at_y at_z e f g =
    absurd (omega (arith, in_order n xs (low + 2 * q) (low + 3 * q) y z rises (omega arith) (omega (arith, is.bound)) at_y at_z, ltb-false (n y) t f, ltb-true (n z) t g))

-- A list in two parts

pub front_rises : {X : Type 0} (n : X → ℕ) (xs ys : List X) → IsNonDecreasingBy n (xs ++ ys) → IsNonDecreasingBy n xs
front_rises n xs ys rises = λ i j d le l.
    let e : n (get_or (xs ++ ys) i d) ≡ n (get_or xs i d) = ap n (get_or_append_left xs ys d i (omega (arith, le, l))) in
    let f : n (get_or (xs ++ ys) j d) ≡ n (get_or xs j d) = ap n (get_or_append_left xs ys d j l) in
    omega (arith, rises i j d le (omega (arith, l, length-append xs ys)), e, f)

pub back_rises : {X : Type 0} (n : X → ℕ) (xs ys : List X) → IsNonDecreasingBy n (xs ++ ys) → IsNonDecreasingBy n ys
back_rises n xs ys rises = λ i j d le l.
    let e : n (get_or (xs ++ ys) (length xs + i) d) ≡ n (get_or ys i d) = ap n (get_or-append-add xs ys i d) in
    let f : n (get_or (xs ++ ys) (length xs + j) d) ≡ n (get_or ys j d) = ap n (get_or-append-add xs ys j d) in
    omega (arith, rises (length xs + i) (length xs + j) d (omega (arith, le)) (omega (arith, l, length-append xs ys)), e, f)

-- the place is in the first part
pub front_point : {X : Type 0} (n : X → ℕ) (m p : ℕ) (xs ys : List X) → p ≤ length xs → AllWithin (λ (x : X). m ≤ n x) (xs ++ ys) (length xs) (length (xs ++ ys))
    → IsPartitionPoint (λ (x : X). n x < m) (λ (x : X). m ≤ n x) xs p → IsPartitionPoint (λ (x : X). n x < m) (λ (x : X). m ≤ n x) (xs ++ ys) p
front_point n m p xs ys le behind point = (
  (λ i d from l.
      let e : n (get_or (xs ++ ys) i d) ≡ n (get_or xs i d) = ap n (get_or_append_left xs ys d i (omega (arith, l, le))) in
      omega (arith, e, point.0 i d from l)),
  (λ i d from l. elim (cases_lt i (length xs)) [
    | inl low ↦
        let e : n (get_or (xs ++ ys) i d) ≡ n (get_or xs i d) = ap n (get_or_append_left xs ys d i low) in
        omega (arith, e, point.1 i d from low)
    | inr high ↦ behind i d high l
  ]),
)

-- the place is in the second part
pub back_point : {X : Type 0} (n : X → ℕ) (m k p : ℕ) (xs ys : List X) → k ≡ length xs → AllWithin (λ (x : X). n x < m) (xs ++ ys) 0 k
    → IsPartitionPoint (λ (x : X). n x < m) (λ (x : X). m ≤ n x) ys p → IsPartitionPoint (λ (x : X). n x < m) (λ (x : X). m ≤ n x) (xs ++ ys) (k + p)
back_point n m k p xs ys same below point = (
  (λ i d from l. elim (cases_lt i k) [
    | inl low ↦ below i d from low
    | inr high ↦
        let e : n (get_or (xs ++ ys) i d) ≡ n (get_or ys (i - k) d) = ap n (get_or-append_right xs ys k i d (sym same) high) in
        omega (arith, e, point.0 (i - k) d (omega arith) (omega (arith, l, high)))
  ]),
  (λ i d from l.
      let e : n (get_or (xs ++ ys) i d) ≡ n (get_or ys (i - k) d) = ap n (get_or-append_right xs ys k i d (sym same) (omega (arith, from))) in
      omega (arith, e, point.1 (i - k) d (omega (arith, from)) (omega (arith, l, from, same, length-append xs ys)))),
)
