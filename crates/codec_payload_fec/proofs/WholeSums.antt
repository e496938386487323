-- Sums of whole bit strings.
use Rattle.std.proofs.Common.{◌≡◌, ℕ, zero, suc, ◌+◌, ◌-◌, ◌<◌, List, [], ◌∷◌, ◌++◌, length, get_or, take, replicate, refl, sym, ap, ◌∙◌, arith, bit_xor, length-append}
use Rattle.std.specs.Int.Bits.{xor_assoc, xor_zero_l, xor_zero_r}
use Rattle.std.proofs.lemmas.Nat.{xor_lt}
use Rattle.std.proofs.lemmas.List.{ext_get_or, length-replicate}
use Rattle.codec_payload_fec.specs.Strings.{BitString, added, bit_string, no_bits, xor, xor_all, xor_bytes}
use Rattle.codec_payload_fec.proofs.SumLemmas.{same_bits, xor_none}
use Rattle.codec_payload_fec.proofs.XorLemmas.{at_sum, at_xor, length_sum, length_xor, xor_associates}

pub length_bits : (p : List ℕ) → length (bit_string p).bytes ≡ length p - 12
unfolding bit_string
length_bits (b0 ∷ b1 ∷ n1 ∷ n0 ∷ t3 ∷ t2 ∷ t1 ∷ t0 ∷ c3 ∷ c2 ∷ c1 ∷ c0 ∷ rest) = omega arith
length_bits p = refl

pub first_bits : (p : List ℕ) → (bit_string p).first < 64
unfolding bit_string
first_bits (b0 ∷ b1 ∷ n1 ∷ n0 ∷ t3 ∷ t2 ∷ t1 ∷ t0 ∷ c3 ∷ c2 ∷ c1 ∷ c0 ∷ rest) = omega arith
first_bits p = omega arith

pub first_below : (ps : List (List ℕ)) → (xor_all ps).first < 64
first_below [] = omega arith
first_below (p ∷ ps) = xor_lt 6 (bit_string p).first (xor_all ps).first (first_bits p) (first_below ps)

-- zeros at the end change no byte
pub at_padded : (xs : List ℕ) (n k : ℕ) → get_or (xs ++ replicate n 0) k 0 ≡ get_or xs k 0
at_padded [] zero k = refl
at_padded [] (suc n) zero = refl
at_padded [] (suc n) (suc k) = at_padded [] n k
at_padded (x ∷ xs) n zero = refl
at_padded (x ∷ xs) n (suc k) = at_padded xs n k

padded_sum : (xs ys : List ℕ) (n : ℕ) → n ≡ length ys - length xs → take (length (xs ++ replicate n 0)) (xor_bytes (xs ++ replicate n 0) ys) ≡ xor_bytes xs ys
padded_sum xs ys n is =
    let long : length (xs ++ replicate n 0) ≡ length xs + n = length-append xs (replicate n 0) ∙ ap (λ (k : ℕ). length xs + k) (length-replicate n 0) in
    let size : length (take (length (xs ++ replicate n 0)) (xor_bytes (xs ++ replicate n 0) ys)) ≡ length (xor_bytes xs ys) =
    omega (arith, length_sum (xs ++ replicate n 0) ys, length_xor xs ys, long, is) in
    ext_get_or 0 (take (length (xs ++ replicate n 0)) (xor_bytes (xs ++ replicate n 0) ys)) (xor_bytes xs ys) size
    (λ k h. at_sum (xs ++ replicate n 0) ys k (omega (arith, h, length_sum (xs ++ replicate n 0) ys)) ∙ ap (λ (b : ℕ). bit_xor b (get_or ys k 0)) (at_padded xs n k) ∙ sym (at_xor xs ys k))

-- a padded sum to which a bit string is added
pub added_whole : (p : List ℕ) (a b : BitString) (size : ℕ) → b ≡ record a { bytes = a.bytes ++ replicate (size - length a.bytes) 0 } → size ≡ length p - 12 → added p b ≡ xor a (bit_string p)
added_whole p a b size is same =
    ap (added p) is
    ∙ same_bits (added p (record a { bytes = a.bytes ++ replicate (size - length a.bytes) 0 })) (xor a (bit_string p)) refl refl refl refl
    (padded_sum a.bytes (bit_string p).bytes (size - length a.bytes) (ap (λ (n : ℕ). n - length a.bytes) (same ∙ sym (length_bits p))))

xor_unit_r : (a : BitString) → xor a no_bits ≡ a
xor_unit_r a = same_bits (xor a no_bits) a (xor_zero_r a.first) (xor_zero_r a.second) (xor_zero_r a.time) (xor_zero_r a.size) (xor_none a.bytes)

xor_unit_l : (a : BitString) → xor no_bits a ≡ a
xor_unit_l a = same_bits (xor no_bits a) a (xor_zero_l a.first) (xor_zero_l a.second) (xor_zero_l a.time) (xor_zero_l a.size) refl

xor_assoc_bits : (a b c : BitString) → xor (xor a b) c ≡ xor a (xor b c)
xor_assoc_bits a b c =
    same_bits (xor (xor a b) c) (xor a (xor b c)) (xor_assoc a.first b.first c.first) (xor_assoc a.second b.second c.second) (xor_assoc a.time b.time c.time) (xor_assoc a.size b.size c.size)
    (xor_associates a.bytes b.bytes c.bytes)

-- one more packet
pub xor_all_push : (ps : List (List ℕ)) (p : List ℕ) → xor (xor_all ps) (bit_string p) ≡ xor_all (ps ++ p ∷ [])
xor_all_push [] p = xor_unit_l (bit_string p) ∙ sym (xor_unit_r (bit_string p))
xor_all_push (q ∷ ps) p = xor_assoc_bits (bit_string q) (xor_all ps) (bit_string p) ∙ ap (xor (bit_string q)) (xor_all_push ps p)
