-- Exclusive or, byte by byte.
use Rattle.std.proofs.Common.{◌≡◌, ℕ, zero, suc, ◌<◌, ◌≤◌, List, [], ◌∷◌, length, get_or, take, max, min, refl, sym, ap, ◌∙◌, inl, inr, arith, bit_xor}
use Rattle.std.specs.Int.Bits.{xor_assoc, xor_self, xor_zero_l, xor_zero_r}
use Rattle.std.proofs.lemmas.Bool.{cases_lt}
use Rattle.std.proofs.lemmas.Nat.{xor_comm}
use Rattle.std.proofs.lemmas.List.{ext_get_or, get_or-take, length-take, get_or_past}
use Rattle.codec_payload_fec.specs.Strings.{XorAssociates, XorCommutes, XorUndoesItself, xor_bytes}

pub at_xor : (xs ys : List ℕ) (k : ℕ) → get_or (xor_bytes xs ys) k 0 ≡ bit_xor (get_or xs k 0) (get_or ys k 0)
at_xor [] ys k = sym (xor_zero_l (get_or ys k 0))
at_xor (x ∷ xs) [] k = sym (xor_zero_r (get_or (x ∷ xs) k 0))
at_xor (x ∷ xs) (y ∷ ys) zero = refl
at_xor (x ∷ xs) (y ∷ ys) (suc k) = at_xor xs ys k

pub length_xor : (xs ys : List ℕ) → length (xor_bytes xs ys) ≡ max (length xs) (length ys)
length_xor [] ys = omega arith
length_xor (x ∷ xs) [] = omega arith
length_xor (x ∷ xs) (y ∷ ys) = omega (arith, length_xor xs ys)

pub xor_commutes : XorCommutes
xor_commutes xs ys =
    ext_get_or 0 (xor_bytes xs ys) (xor_bytes ys xs) (omega (arith, length_xor xs ys, length_xor ys xs))
    (λ k h. at_xor xs ys k ∙ xor_comm (get_or xs k 0) (get_or ys k 0) ∙ sym (at_xor ys xs k))

pub xor_associates : XorAssociates
xor_associates xs ys zs =
    ext_get_or 0 (xor_bytes (xor_bytes xs ys) zs) (xor_bytes xs (xor_bytes ys zs))
    (omega (arith, length_xor xs ys, length_xor (xor_bytes xs ys) zs, length_xor ys zs, length_xor xs (xor_bytes ys zs)))
    (λ k h. at_xor (xor_bytes xs ys) zs k ∙ ap (λ (n : ℕ). bit_xor n (get_or zs k 0)) (at_xor xs ys k)
    ∙ xor_assoc (get_or xs k 0) (get_or ys k 0) (get_or zs k 0)
    ∙ ap (λ (n : ℕ). bit_xor (get_or xs k 0) n) (sym (at_xor ys zs k)) ∙ sym (at_xor xs (xor_bytes ys zs) k))

pub xor_undoes_itself : XorUndoesItself
xor_undoes_itself [] = refl
xor_undoes_itself (x ∷ xs) = ap (λ (n : ℕ). n ∷ xor_bytes xs xs) (xor_self x) ∙ ap (λ (ns : List ℕ). 0 ∷ ns) (xor_undoes_itself xs)

-- the sum stays as long as it was
pub length_sum : (xs ys : List ℕ) → length (take (length xs) (xor_bytes xs ys)) ≡ length xs
length_sum xs ys = omega (arith, length-take (length xs) (xor_bytes xs ys), length_xor xs ys)

pub at_sum : (xs ys : List ℕ) (k : ℕ) → k < length xs → get_or (take (length xs) (xor_bytes xs ys)) k 0 ≡ bit_xor (get_or xs k 0) (get_or ys k 0)
at_sum xs ys k h = get_or-take (length xs) (xor_bytes xs ys) k 0 h ∙ at_xor xs ys k

pub summed : (old bytes new : List ℕ) (n : ℕ) → length new ≡ length old → n ≡ min (length old) (length bytes) → ((k : ℕ) → k < n → get_or new k 0 ≡ bit_xor (get_or old k 0) (get_or bytes k 0))
    → ((k : ℕ) → n ≤ k → get_or new k 0 ≡ get_or old k 0) → new ≡ take (length old) (xor_bytes old bytes)
summed old bytes new n same is front back =
    ext_get_or 0 new (take (length old) (xor_bytes old bytes)) (same ∙ sym (length_sum old bytes))
    (λ k h. elim (cases_lt k n) [
      | inl lt ↦ front k lt ∙ sym (at_sum old bytes k (omega (arith, h, same)))
      | inr le ↦ back k le ∙ sym (xor_zero_r (get_or old k 0)) ∙ ap (λ (b : ℕ). bit_xor (get_or old k 0) b) (sym (get_or_past bytes k 0 (omega (arith, h, same, is, le)))) ∙ sym (at_sum old bytes k (omega (arith, h, same)))
    ])
