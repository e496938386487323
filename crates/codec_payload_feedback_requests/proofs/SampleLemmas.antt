-- The latest samples, the latest first.
use Rattle.std.proofs.Common.{◌≡◌, ◌≤◌, ◌+◌, ◌∙◌, ℕ, zero, suc, min, List, [], ◌∷◌, ◌++◌, length, take, drop, set, refl, sym, ap, arith}

-- each sample moves by one place
pub shifted : (n d : ℕ) (ds : List ℕ) → length ds ≡ suc n → set ((take 1 ds ++ take n ds) ++ drop (suc n) ds) 0 d ≡ d ∷ take n ds
shifted n d [] h = absurd (omega (arith, h))
shifted n d (x ∷ ds) h = ap (λ l. d ∷ l) (front_rest n (x ∷ ds) h)
  where
    front_rest : (n : ℕ) (xs : List ℕ) → length xs ≡ suc n → take n xs ++ drop (suc n) xs ≡ take n xs
    front_rest zero [] h = absurd (omega (arith, h))
    front_rest zero (y ∷ []) h = refl
    front_rest zero (y ∷ z ∷ ys) h = absurd (omega (arith, h))
    front_rest (suc n) [] h = absurd (omega (arith, h))
    front_rest (suc n) (y ∷ ys) h = ap (λ x. y ∷ x) (front_rest n ys (omega (arith, h)))

front_of_front : (m n : ℕ) (xs : List ℕ) → take m (take n xs) ≡ take n (take m xs)
front_of_front zero zero xs = refl
front_of_front zero (suc n) xs = refl
front_of_front (suc m) zero xs = refl
front_of_front (suc m) (suc n) [] = refl
front_of_front (suc m) (suc n) (x ∷ xs) = ap (λ l. x ∷ l) (front_of_front m n xs)

pub front_again : (n : ℕ) (xs : List ℕ) → take n (take (suc n) xs) ≡ take n xs
front_again zero xs = refl
front_again (suc n) [] = refl
front_again (suc n) (x ∷ xs) = ap (λ l. x ∷ l) (front_again n xs)

front_twice : (n : ℕ) (xs : List ℕ) → take n (take n xs) ≡ take n xs
front_twice zero xs = refl
front_twice (suc n) [] = refl
front_twice (suc n) (x ∷ xs) = ap (λ l. x ∷ l) (front_twice n xs)

-- the front of what was kept, up to the bound
kept_below : (k n : ℕ) (d : ℕ) (xs : List ℕ) → k ≤ n → take (min (k + 1) (suc n)) (d ∷ take n xs) ≡ take (suc n) (d ∷ take k xs)
kept_below k n d xs few =
    let room : min (k + 1) (suc n) ≡ suc k = omega (arith, few) in
    ap (λ (m : ℕ). take m (d ∷ take n xs)) room ∙ ap (λ l. d ∷ l) (front_of_front k n xs)

kept_full : (n : ℕ) (d : ℕ) (xs : List ℕ) → take (min (suc n + 1) (suc n)) (d ∷ take n xs) ≡ take (suc n) (d ∷ take (suc n) xs)
kept_full n d xs =
    let full : min (suc n + 1) (suc n) ≡ suc n = omega arith in
    ap (λ (m : ℕ). take m (d ∷ take n xs)) full ∙ ap (λ l. d ∷ l) (front_twice n xs ∙ sym (front_again n xs))

pub kept_five : (k d : ℕ) (xs : List ℕ) → k ≤ 5 → take (min (k + 1) 5) (d ∷ take 4 xs) ≡ take 5 (d ∷ take k xs)
kept_five zero d xs few = kept_below 0 4 d xs (omega arith)
kept_five (suc zero) d xs few = kept_below 1 4 d xs (omega arith)
kept_five (suc (suc zero)) d xs few = kept_below 2 4 d xs (omega arith)
kept_five (suc (suc (suc zero))) d xs few = kept_below 3 4 d xs (omega arith)
kept_five (suc (suc (suc (suc zero)))) d xs few = kept_below 4 4 d xs (omega arith)
kept_five (suc (suc (suc (suc (suc zero))))) d xs few = kept_full 4 d xs
kept_five (suc (suc (suc (suc (suc (suc k)))))) d xs few = absurd (omega (arith, few))
