-- Searches by halves in lists of numbers, the highest first.
use Rattle.std.proofs.Common.{◌≡◌, ◌∙◌, refl, sym, ℕ, zero, suc, ◌+◌, ◌-◌, ◌<◌, ◌≤◌, List, [], ◌∷◌, length, get_or, Bool, true, false, cond, ltb, arith}
use Rattle.std.proofs.lemmas.Bool.{le-ltb, lt-ltb, ltb-false, ltb-true}
use Rattle.std.proofs.lemmas.List.{get_or_default}
use Rattle.codec_payload_sending_forward.specs.Numbers.{AllBelow, Falls, above, source_at}
use Rattle.codec_payload_sending_forward.proofs.NumberLemmas.{Order, order, less, same, more, above_first, above_more, all_below_at}

-- How many are above: more than the place of one that is above, at most the place of one that is not

past : (n k : ℕ) (xs : List ℕ) → k < length xs → Falls xs → n < get_or xs k 0 → k < above n xs
past n k [] l f h = absurd (omega (arith, l))
past n zero (x ∷ xs) l f h = rw (above_more n x xs h) (omega arith)
past n (suc k) (x ∷ xs) l f h =
    let m : get_or xs k 0 < x = all_below_at x k xs (omega (arith, l)) f.0 in
    let r : k < above n xs = past n k xs (omega (arith, l)) f.1 h in
    rw (above_more n x xs (omega (arith, h, m))) (omega (arith, r))

here : (n k : ℕ) (xs : List ℕ) → k < length xs → Falls xs → get_or xs k 0 ≤ n → above n xs ≤ k
here n k [] l f h = absurd (omega (arith, l))
here n zero (x ∷ xs) l f h = omega (arith, above_first n x xs h f.0)
here n (suc k) (x ∷ xs) l f h = by (order n x) (here n k xs (omega (arith, l)) f.1 h)
  where
    by : Order n x → above n xs ≤ k → above n (x ∷ xs) ≤ suc k
    by (less m) r = rw (above_more n x xs m) (omega (arith, r))
    by (same e) r = omega (arith, above_first n x xs (omega (arith, e)) f.0)
    by (more m) r = omega (arith, above_first n x xs (omega (arith, m)) f.0)

pub above_past : (n y k : ℕ) (xs : List ℕ) → k < length xs → Falls xs → y ≡ get_or xs k y → n < y → k < above n xs
above_past n y k xs l f at high = past n k xs l f (omega (arith, at ∙ get_or_default xs k y 0 l, high))

pub above_here : (n y k : ℕ) (xs : List ℕ) → k < length xs → Falls xs → y ≡ get_or xs k y → y ≤ n → above n xs ≤ k
above_here n y k xs l f at low = here n k xs l f (omega (arith, at ∙ get_or_default xs k y 0 l, low))

-- The number that has a place among those that are not left out

source_cons : (p x : ℕ) (xs : List ℕ) → source_at p (x ∷ xs) ≡ cond (ltb x (p + suc (length xs))) (p + suc (length xs)) (source_at p xs)
source_cons p x xs = refl

-- it is from the place on, and at most all of them further
pub source_from : (p : ℕ) (xs : List ℕ) → p ≤ source_at p xs
source_from p [] = omega arith
source_from p (x ∷ xs) = by (ltb x (p + suc (length xs))) (source_from p xs)
  where
    by : (b : Bool) → p ≤ source_at p xs → p ≤ cond b (p + suc (length xs)) (source_at p xs)
    by true r = omega arith
    by false r = r

pub source_few : (p : ℕ) (xs : List ℕ) → source_at p xs ≤ p + length xs
source_few p [] = omega arith
source_few p (x ∷ xs) = by (ltb x (p + suc (length xs))) (source_few p xs)
  where
    by : (b : Bool) → source_at p xs ≤ p + length xs → cond b (p + suc (length xs)) (source_at p xs) ≤ p + suc (length xs)
    by true r = omega arith
    by false r = omega (arith, r)

-- each is at least its distance below the first
falls_by : (k x : ℕ) (xs : List ℕ) → k < length xs → Falls (x ∷ xs) → suc k + get_or xs k 0 ≤ x
falls_by k x [] l f = absurd (omega (arith, l))
falls_by zero x (y ∷ ys) l f = omega (arith, f.0.0)
falls_by (suc k) x (y ∷ ys) l f = omega (arith, f.0.0, falls_by k y ys (omega (arith, l)) f.1)

hit : (p k : ℕ) (xs : List ℕ) → k < length xs → get_or xs k 0 + k < p + length xs → p + length xs ≤ source_at p xs + k
hit p k [] l h = absurd (omega (arith, l))
hit p zero (x ∷ xs) l h = rw (lt-ltb x (p + suc (length xs)) (omega (arith, h))) (omega arith)
hit p (suc k) (x ∷ xs) l h = by (ltb x (p + suc (length xs))) (hit p k xs (omega (arith, l)) (omega (arith, h)))
  where
    by : (b : Bool) → p + length xs ≤ source_at p xs + k → p + suc (length xs) ≤ cond b (p + suc (length xs)) (source_at p xs) + suc k
    by true r = omega arith
    by false r = omega (arith, r)

miss : (p k : ℕ) (xs : List ℕ) → k < length xs → Falls xs → p + length xs ≤ get_or xs k 0 + k → source_at p xs + suc k ≤ p + length xs
miss p k [] l f h = absurd (omega (arith, l))
miss p zero (x ∷ xs) l f h = rw (le-ltb x (p + suc (length xs)) (omega (arith, h))) (omega (arith, source_few p xs))
miss p (suc k) (x ∷ xs) l f h =
    let m : suc k + get_or xs k 0 ≤ x = falls_by k x xs (omega (arith, l)) f in
    let r : source_at p xs + suc k ≤ p + length xs = miss p k xs (omega (arith, l)) f.1 (omega (arith, h)) in
    rw (le-ltb x (p + suc (length xs)) (omega (arith, m, h, l))) (omega (arith, r))

pub source_hit : (p y k : ℕ) (xs : List ℕ) → k < length xs → y ≡ get_or xs k y → y < p + (length xs - k) → p + (length xs - k) ≤ source_at p xs
source_hit p y k xs l at low =
    let r : p + length xs ≤ source_at p xs + k = hit p k xs l (omega (arith, at ∙ get_or_default xs k y 0 l, low, l)) in
    omega (arith, r, l)

pub source_miss : (p y k : ℕ) (xs : List ℕ) → k < length xs → Falls xs → y ≡ get_or xs k y → p + (length xs - k) ≤ y → source_at p xs ≤ p + (length xs - suc k)
source_miss p y k xs l f at high =
    let r : source_at p xs + suc k ≤ p + length xs = miss p k xs l f (omega (arith, at ∙ get_or_default xs k y 0 l, high, l)) in
    omega (arith, r, l)

-- the first is the highest
pub above_front : (n y : ℕ) (xs : List ℕ) → 0 < length xs → Falls xs → y ≡ get_or xs 0 y → y ≤ n → above n xs ≡ 0
above_front n y xs l f at low = omega (arith, above_here n y 0 xs l f at low)
