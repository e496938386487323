-- Numbers that are written one after another, as many as there is room for.
use Rattle.std.proofs.Common.{◌≡◌, ◌∙◌, ap, refl, ℕ, zero, suc, ◌≤◌, List, [], ◌∷◌, length, set, arith}
use Rattle.std.specs.Prelude.{min}
use Rattle.std.proofs.Math.Nat.{min-eq_left}
use Rattle.codec_payload_c_packets.specs.Histories.{put_first}

-- each number is put at the next place, from this one on
abbrev pub put_from : ℕ → List ℕ → List ℕ → List ℕ
put_from place numbers [] = numbers
put_from place numbers (x ∷ xs) = put_from (suc place) (set numbers place x) xs

put_later : (place b : ℕ) (bs xs : List ℕ) → put_from (suc place) (b ∷ bs) xs ≡ b ∷ put_from place bs xs
put_later place b bs [] = refl
put_later place b bs (x ∷ xs) = put_later (suc place) b (set bs place x) xs

put_nowhere : (place : ℕ) (xs : List ℕ) → put_from place [] xs ≡ []
put_nowhere place [] = refl
put_nowhere place (x ∷ xs) = put_nowhere (suc place) xs

-- from the first place on
pub put_all : (before xs : List ℕ) → put_from 0 before xs ≡ put_first xs before
put_all [] [] = refl
put_all [] (x ∷ xs) = put_nowhere 1 xs
put_all (b ∷ bs) [] = refl
put_all (b ∷ bs) (x ∷ xs) = put_later 0 x bs xs ∙ ap (λ (ys : List ℕ). x ∷ ys) (put_all bs xs)

least_suc : (n most : ℕ) → min (suc n) (suc most) ≡ suc (min n most)
least_suc n most = omega arith

-- writing at a place behind the list changes nothing, as at each place after it
pub set_least : (most n : ℕ) (xs : List ℕ) (x : ℕ) → length xs ≤ most → set xs (min n most) x ≡ set xs n x
set_least most n [] x h = refl
set_least zero n (y ∷ ys) x h = absurd (omega (arith, h))
set_least (suc most) zero (y ∷ ys) x h = ap (λ (i : ℕ). set (y ∷ ys) i x) (min-eq_left (omega arith))
set_least (suc most) (suc n) (y ∷ ys) x h = ap (λ (i : ℕ). set (y ∷ ys) i x) (least_suc n most) ∙ ap (λ (zs : List ℕ). y ∷ zs) (set_least most n ys x (omega (arith, h)))
