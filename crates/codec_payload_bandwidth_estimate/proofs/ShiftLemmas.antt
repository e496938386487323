-- A list whose elements move by one place.
use Rattle.std.proofs.Common.{◌≡◌, ℕ, zero, suc, List, [], ◌∷◌, ◌++◌, length, take, drop, set, refl, ap, arith}

front_rest : {A : Type 0} (n : ℕ) (xs : List A) → length xs ≡ suc n → take n xs ++ drop (suc n) xs ≡ take n xs
front_rest zero [] h = absurd (omega (arith, h))
front_rest zero (y ∷ []) h = refl
front_rest zero (y ∷ z ∷ ys) h = absurd (omega (arith, h))
front_rest (suc n) [] h = absurd (omega (arith, h))
front_rest (suc n) (y ∷ ys) h = ap (λ x. y ∷ x) (front_rest n ys (omega (arith, h)))

pub shifted : {A : Type 0} (n : ℕ) (d : A) (ds : List A) → length ds ≡ suc n → set ((take 1 ds ++ take n ds) ++ drop (suc n) ds) 0 d ≡ d ∷ take n ds
shifted n d [] h = absurd (omega (arith, h))
shifted n d (x ∷ ds) h = ap (λ l. d ∷ l) (front_rest n (x ∷ ds) h)
