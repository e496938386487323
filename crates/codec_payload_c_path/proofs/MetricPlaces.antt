-- Elements that are written one after another.
use Rattle.std.proofs.Common.{◌≡◌, ℕ, zero, suc, ◌+◌, ◌<◌, List, [], ◌∷◌, ◌++◌, length, set, take, drop, refl, ap, subst, arith}

put_suc : {A : Type 0} (xs : List A) (n : ℕ) (x : A) (more : List A) → n < length xs → take (suc n) (set xs n x) ++ more ≡ take n xs ++ x ∷ more
put_suc [] n x more h = absurd (omega (arith, h))
put_suc (y ∷ ys) zero x more h = refl
put_suc {A} (y ∷ ys) (suc n) x more h = ap (λ (zs : List A). y ∷ zs) (put_suc ys n x more (omega (arith, h)))

rest_suc : {A : Type 0} (xs : List A) (n : ℕ) (x : A) → drop (suc n) (set xs n x) ≡ drop (suc n) xs
rest_suc [] n x = refl
rest_suc (y ∷ ys) zero x = refl
rest_suc (y ∷ ys) (suc n) x = rest_suc ys n x

one_more : (n : ℕ) → suc n ≡ n + 1
one_more n = omega arith

pub put_next : {A : Type 0} (xs : List A) (n : ℕ) (x : A) (more : List A) → n < length xs → take (n + 1) (set xs n x) ++ more ≡ take n xs ++ x ∷ more
put_next xs n x more h = subst (λ (k : ℕ). take k (set xs n x) ++ more ≡ take n xs ++ x ∷ more) (one_more n) (put_suc xs n x more h)

pub rest_next : {A : Type 0} (xs : List A) (n : ℕ) (x : A) → drop (n + 1) (set xs n x) ≡ drop (n + 1) xs
rest_next xs n x = subst (λ (k : ℕ). drop k (set xs n x) ≡ drop k xs) (one_more n) (rest_suc xs n x)
