-- Lists of numbers, the highest first.
use Rattle.std.proofs.Common.{◌≡◌, ◌≢◌, ◌∙◌, refl, sym, ap, ℕ, zero, suc, ◌+◌, ◌<◌, ◌≤◌, List, [], ◌∷◌, length, take, drop, get_or, Bool, true, false, cond, eqb, ltb, arith, subst}
use Rattle.std.specs.Prelude.{◌||◌, ◌&&◌}
use Rattle.std.proofs.lemmas.Bool.{le-ltb, lt-ltb, ltb-false, ltb-true, eq-eqb, ne_eqb}
use Rattle.std.proofs.lemmas.List.{get_or_default}
use Rattle.codec_payload_sending_forward.specs.Numbers.{AllBelow, Falls, above, below, is_in, source_at}

-- A number is below another, equal, or above it

pub data Order (a b : ℕ) : Type 0 where
  less : a < b → Order a b
  same : a ≡ b → Order a b
  more : b < a → Order a b

pub order : (a b : ℕ) → Order a b
order a b = by (ltb a b) refl (ltb b a) refl
  where
    by : (x : Bool) → ltb a b ≡ x → (y : Bool) → ltb b a ≡ y → Order a b
    by true e y f = less (ltb-true a b e)
    by false e true f = more (ltb-true b a f)
    by false e false f = same (omega (arith, ltb-false a b e, ltb-false b a f))

pub all_below_less : (n m : ℕ) (xs : List ℕ) → n ≤ m → AllBelow n xs → AllBelow m xs
all_below_less n m [] l h = tt
all_below_less n m (x ∷ xs) l h = (omega (arith, l, h.0), all_below_less n m xs l h.1)

pub all_below_take : (n k : ℕ) (xs : List ℕ) → AllBelow n xs → AllBelow n (take k xs)
all_below_take n zero xs h = tt
all_below_take n (suc k) [] h = tt
all_below_take n (suc k) (x ∷ xs) h = (h.0, all_below_take n k xs h.1)

pub falls_take : (k : ℕ) (xs : List ℕ) → Falls xs → Falls (take k xs)
falls_take zero xs h = tt
falls_take (suc k) [] h = tt
falls_take (suc k) (x ∷ xs) h = (all_below_take x k xs h.0, falls_take k xs h.1)

pub all_below_at : (n k : ℕ) (xs : List ℕ) → k < length xs → AllBelow n xs → get_or xs k 0 < n
all_below_at n k [] l h = absurd (omega (arith, l))
all_below_at n zero (x ∷ xs) l h = h.0
all_below_at n (suc k) (x ∷ xs) l h = all_below_at n k xs (omega (arith, l)) h.1

-- How many are above

pub above_none : (n x : ℕ) (xs : List ℕ) → x ≤ suc n → AllBelow x xs → above n xs ≡ 0
above_none n x [] l h = refl
above_none n x (y ∷ ys) l h = rw (le-ltb n y (omega (arith, h.0, l))) (above_none n x ys l h.1)

pub above_first : (n x : ℕ) (xs : List ℕ) → x ≤ n → AllBelow x xs → above n (x ∷ xs) ≡ 0
above_first n x xs l h = rw (le-ltb n x l) (above_none n x xs (omega (arith, l)) h)

pub above_more : (n x : ℕ) (xs : List ℕ) → n < x → above n (x ∷ xs) ≡ suc (above n xs)
above_more n x xs l = rw (lt-ltb n x l) refl

pub above_few : (n : ℕ) (xs : List ℕ) → above n xs ≤ length xs
above_few n [] = omega arith
above_few n (x ∷ xs) = by (ltb n x) (above_few n xs)
  where
    by : (b : Bool) → above n xs ≤ length xs → cond b (suc (above n xs)) (above n xs) ≤ suc (length xs)
    by true few = omega (arith, few)
    by false few = omega (arith, few)

-- How many are below

pub below_more : (n x : ℕ) (xs : List ℕ) → x < n → below n (x ∷ xs) ≡ suc (below n xs)
below_more n x xs l = rw (lt-ltb x n l) refl

pub below_same : (n x : ℕ) (xs : List ℕ) → n ≤ x → below n (x ∷ xs) ≡ below n xs
below_same n x xs l = rw (le-ltb x n l) refl

pub below_all : (n : ℕ) (xs : List ℕ) → AllBelow n xs → below n xs ≡ length xs
below_all n [] h = refl
below_all n (x ∷ xs) h = below_more n x xs h.0 ∙ ap suc (below_all n xs h.1)

pub below_few : (n : ℕ) (xs : List ℕ) → below n xs ≤ length xs
below_few n [] = omega arith
below_few n (x ∷ xs) = by (ltb x n) (below_few n xs)
  where
    by : (b : Bool) → below n xs ≤ length xs → cond b (suc (below n xs)) (below n xs) ≤ suc (length xs)
    by true few = omega (arith, few)
    by false few = omega (arith, few)

-- at most n different numbers are below n
pub few_below : (n : ℕ) (xs : List ℕ) → Falls xs → AllBelow n xs → length xs ≤ n
few_below n [] f h = omega arith
few_below n (x ∷ xs) f h = omega (arith, h.0, few_below x xs f.1 f.0)

pub low_below : (n : ℕ) (xs : List ℕ) → Falls xs → below n xs ≤ n
low_below n [] f = omega arith
low_below n (x ∷ xs) f = by (order n x) (low_below n xs f.1)
  where
    by : Order n x → below n xs ≤ n → below n (x ∷ xs) ≤ n
    by (less l) low = rw (below_same n x xs (omega (arith, l))) low
    by (same e) low = rw (below_same n x xs (omega (arith, e))) low
    by (more l) low = rw (below_more n x xs l, below_all n xs (all_below_less x n xs (omega (arith, l)) f.0)) (omega (arith, l, few_below x xs f.1 f.0))

-- Whether a number is among them

pub in_more : (n x : ℕ) (xs : List ℕ) → n ≢ x → is_in n (x ∷ xs) ≡ is_in n xs
in_more n x xs ne = rw (ne_eqb x n (λ e. ne (sym e))) refl

pub not_in : (n : ℕ) (xs : List ℕ) → AllBelow n xs → is_in n xs ≡ false
not_in n [] h = refl
not_in n (x ∷ xs) h = in_more n x xs (λ e. omega (arith, e, h.0)) ∙ not_in n xs h.1

pub in_or : (a b : Bool) → (a || b) ≡ false → (a ≡ false) × (b ≡ false)
in_or true b e = absurd (cc)
in_or false b e = (refl, e)

pub not_first : (n x : ℕ) (xs : List ℕ) → is_in n (x ∷ xs) ≡ false → (n ≢ x) × (is_in n xs ≡ false)
not_first n x xs e =
    let s = in_or (eqb x n) (is_in n xs) e in
    (λ h. absurd (true_not (sym (eq-eqb x n (sym h)) ∙ s.0)), s.1)
  where
    true_not : true ≡ false → ⊥
    true_not e = cc

less_suc : (a b : ℕ) → ltb (suc a) (suc b) ≡ ltb a b
less_suc a b = by (order a b)
  where
    by : Order a b → ltb (suc a) (suc b) ≡ ltb a b
    by (less l) = lt-ltb (suc a) (suc b) (omega (arith, l)) ∙ sym (lt-ltb a b l)
    by (same e) = le-ltb (suc a) (suc b) (omega (arith, e)) ∙ sym (le-ltb a b (omega (arith, e)))
    by (more l) = le-ltb (suc a) (suc b) (omega (arith, l)) ∙ sym (le-ltb a b (omega (arith, l)))

-- it is where the numbers above it end
pub in_at : (n : ℕ) (xs : List ℕ) → Falls xs → is_in n xs ≡ (ltb (above n xs) (length xs) && eqb (get_or xs (above n xs) 0) n)
in_at n [] f = refl
in_at n (x ∷ xs) f = by (order n x) (in_at n xs f.1)
  where
    by : Order n x → is_in n xs ≡ (ltb (above n xs) (length xs) && eqb (get_or xs (above n xs) 0) n) → is_in n (x ∷ xs) ≡ (ltb (above n (x ∷ xs)) (suc (length xs)) && eqb (get_or (x ∷ xs) (above n (x ∷ xs)) 0) n)
    by (less l) there = in_more n x xs (λ e. omega (arith, e, l)) ∙ (there ∙ rw (above_more n x xs l, less_suc (above n xs) (length xs)) refl)
    by (same e) there = rw (above_first n x xs (omega (arith, e)) f.0, eq-eqb x n (sym e), lt-ltb 0 (suc (length xs)) (omega arith)) refl
    by (more l) there = in_more n x xs (λ e. omega (arith, e, l)) ∙ (not_in n xs (all_below_less x n xs (omega (arith, l)) f.0) ∙ rw (above_first n x xs (omega (arith, l)) f.0, ne_eqb x n (λ e. omega (arith, e, l)), lt-ltb 0 (suc (length xs)) (omega arith)) refl)

-- one that is not among them parts them
pub parted : (n : ℕ) (xs : List ℕ) → is_in n xs ≡ false → above n xs + below n xs ≡ length xs
parted n [] h = refl
parted n (x ∷ xs) h =
    let s = not_first n x xs h in
    by (order n x) s.0 (parted n xs s.1)
  where
    by : Order n x → n ≢ x → above n xs + below n xs ≡ length xs → above n (x ∷ xs) + below n (x ∷ xs) ≡ suc (length xs)
    by (less l) ne e = rw (above_more n x xs l, below_same n x xs (omega (arith, l))) (omega (arith, e))
    by (same s) ne e = absurd (ne s)
    by (more l) ne e = rw (le-ltb n x (omega (arith, l)), below_more n x xs l) (omega (arith, e))

-- The number at a place

pub room_above : (n x : ℕ) (xs : List ℕ) → n < x → Falls xs → AllBelow x xs → suc n + above n xs ≤ x
room_above n x [] l f h = omega (arith, l)
room_above n x (y ∷ ys) l f h = by (order n y) (λ m. room_above n y ys m f.1 f.0)
  where
    by : Order n y → (n < y → suc n + above n ys ≤ y) → suc n + above n (y ∷ ys) ≤ x
    by (less m) room = rw (above_more n y ys m) (omega (arith, room m, h.0))
    by (same e) room = rw (above_first n y ys (omega (arith, e)) f.0) (omega (arith, l))
    by (more m) room = rw (above_first n y ys (omega (arith, m)) f.0) (omega (arith, l))

source_here : (p x : ℕ) (xs : List ℕ) → x < p + suc (length xs) → source_at p (x ∷ xs) ≡ p + suc (length xs)
source_here p x xs l = rw (lt-ltb x (p + suc (length xs)) l) refl

source_later : (p x : ℕ) (xs : List ℕ) → p + suc (length xs) ≤ x → source_at p (x ∷ xs) ≡ source_at p xs
source_later p x xs l = rw (le-ltb x (p + suc (length xs)) l) refl

pub source_is : (n p : ℕ) (xs : List ℕ) → Falls xs → is_in n xs ≡ false → n ≡ p + below n xs → source_at p xs ≡ n
source_is n p [] f out e = omega (arith, e)
source_is n p (x ∷ xs) f out e = by (order n x) (source_is n p xs f.1 (not_first n x xs out).1)
  where
    by : Order n x → (n ≡ p + below n xs → source_at p xs ≡ n) → source_at p (x ∷ xs) ≡ n
    by (less l) rest =
        let b : below n (x ∷ xs) ≡ below n xs = below_same n x xs (omega (arith, l)) in
        let t : n ≡ p + below n xs = omega (arith, e, b) in
        let r : above n xs + below n xs ≡ length xs = parted n xs (not_first n x xs out).1 in
        source_later p x xs (omega (arith, room_above n x xs l f.1 f.0, t, r)) ∙ rest t
    by (same s) rest = absurd ((not_first n x xs out).0 s)
    by (more l) rest =
        let b : below n (x ∷ xs) ≡ suc (length xs) = below_all n (x ∷ xs) (l, all_below_less x n xs (omega (arith, l)) f.0) in
        let t : n ≡ p + suc (length xs) = omega (arith, e, b) in
        source_here p x xs (omega (arith, l, t)) ∙ sym t

pub record IsSource (p n : ℕ) (xs : List ℕ) : Type 0 where
  pub out : is_in n xs ≡ false
  pub is : n ≡ p + below n xs

pub is_source : (p : ℕ) (xs : List ℕ) → Falls xs → IsSource p (source_at p xs) xs
is_source p [] f = record { out = refl; is = omega arith }
is_source p (x ∷ xs) f = by (ltb x (p + suc (length xs))) refl (is_source p xs f.1)
  where
    by : (b : Bool) → ltb x (p + suc (length xs)) ≡ b → IsSource p (source_at p xs) xs → IsSource p (source_at p (x ∷ xs)) (x ∷ xs)
    by true e r =
        let l : x < p + suc (length xs) = ltb-true x (p + suc (length xs)) e in
        let h : AllBelow (p + suc (length xs)) (x ∷ xs) = (l, all_below_less x (p + suc (length xs)) xs (omega (arith, l)) f.0) in
        subst (λ (n : ℕ). IsSource p n (x ∷ xs)) (sym (source_here p x xs l)) (record { out = not_in _ (x ∷ xs) h; is = ap (λ k. p + k) (sym (below_all _ (x ∷ xs) h)) })
    by false e r =
        let l : p + suc (length xs) ≤ x = ltb-false x (p + suc (length xs)) e in
        let m : source_at p xs < x = omega (arith, r.is, below_few (source_at p xs) xs, l) in
        subst (λ (n : ℕ). IsSource p n (x ∷ xs)) (sym (source_later p x xs l)) (record {
          out = in_more (source_at p xs) x xs (λ e. omega (arith, e, m)) ∙ r.out;
          is = r.is ∙ ap (λ k. p + k) (sym (below_same (source_at p xs) x xs (omega (arith, m))));
        })

-- As the searches find them

-- from the first that is not above the number, none is
pub above_at : (n k : ℕ) (xs : List ℕ) → k < length xs → Falls xs → get_or xs k 0 ≤ n → above n (drop k xs) ≡ 0
above_at n k [] l f h = absurd (omega (arith, l))
above_at n zero (x ∷ xs) l f h = above_first n x xs h f.0
above_at n (suc k) (x ∷ xs) l f h = above_at n k xs (omega (arith, l)) f.1 h

pub in_here : (n y k : ℕ) (xs : List ℕ) → Falls xs → k ≡ above n xs → k < length xs → y ≡ get_or xs k y → eqb y n ≡ is_in n xs
in_here n y k xs f e l at =
    let there : y ≡ get_or xs k 0 = at ∙ get_or_default xs k y 0 l in
    sym (in_at n xs f ∙ rw (← e, lt-ltb k (length xs) l, ← there) refl)

pub in_past : (n k len : ℕ) (xs : List ℕ) → Falls xs → k ≡ above n xs → len ≡ length xs → len ≤ k → ltb k len ≡ is_in n xs
in_past n k len xs f e is l = sym (in_at n xs f ∙ rw (← e, ← is, le-ltb k len l) refl)

pub above_from : (n y k : ℕ) (xs : List ℕ) → k < length xs → Falls xs → y ≡ get_or xs k y → y ≤ n → above n (drop k xs) ≡ 0
above_from n y k xs l f at low = above_at n k xs l f (omega (arith, at ∙ get_or_default xs k y 0 l, low))
