-- Bit strings and their sums.
use Rattle.std.proofs.Common.{◌≡◌, ℕ, ◌<◌, List, [], ◌∷◌, length, take, refl, ap, ◌∙◌, arith}
use Rattle.std.specs.Int.Bits.{xor_zero_r}
use Rattle.std.proofs.lemmas.List.{take_all}
use Rattle.codec_payload_fec.specs.Strings.{BitString, added, bit_string, no_bits, xor, xor_bytes}

short : (p : List ℕ) → length p < 12 → bit_string p ≡ no_bits
unfolding bit_string
short [] h = refl
short (a ∷ []) h = refl
short (a ∷ b ∷ []) h = refl
short (a ∷ b ∷ c ∷ []) h = refl
short (a ∷ b ∷ c ∷ d ∷ []) h = refl
short (a ∷ b ∷ c ∷ d ∷ e ∷ []) h = refl
short (a ∷ b ∷ c ∷ d ∷ e ∷ f ∷ []) h = refl
short (a ∷ b ∷ c ∷ d ∷ e ∷ f ∷ g ∷ []) h = refl
short (a ∷ b ∷ c ∷ d ∷ e ∷ f ∷ g ∷ i ∷ []) h = refl
short (a ∷ b ∷ c ∷ d ∷ e ∷ f ∷ g ∷ i ∷ j ∷ []) h = refl
short (a ∷ b ∷ c ∷ d ∷ e ∷ f ∷ g ∷ i ∷ j ∷ k ∷ []) h = refl
short (a ∷ b ∷ c ∷ d ∷ e ∷ f ∷ g ∷ i ∷ j ∷ k ∷ l ∷ []) h = refl
short (a ∷ b ∷ c ∷ d ∷ e ∷ f ∷ g ∷ i ∷ j ∷ k ∷ l ∷ m ∷ ps) h = absurd (omega (arith, h))

pub xor_none : (xs : List ℕ) → xor_bytes xs [] ≡ xs
xor_none [] = refl
xor_none (x ∷ xs) = refl

abbrev pub bits : (first second time size : ℕ) → List ℕ → BitString
bits first second time size bytes = record { first = first; second = second; time = time; size = size; bytes = bytes }

same_fields : (f f' s s' t t' z z' : ℕ) (bs bs' : List ℕ) → f ≡ f' → s ≡ s' → t ≡ t' → z ≡ z' → bs ≡ bs' → bits f s t z bs ≡ bits f' s' t' z' bs'
same_fields f f' s s' t t' z z' bs bs' e1 e2 e3 e4 e5 = rw (e1, e2, e3, e4, e5) refl

pub same_bits : (a b : BitString) → a.first ≡ b.first → a.second ≡ b.second → a.time ≡ b.time → a.size ≡ b.size → a.bytes ≡ b.bytes → a ≡ b
same_bits a b e1 e2 e3 e4 e5 = same_fields a.first b.first a.second b.second a.time b.time a.size b.size a.bytes b.bytes e1 e2 e3 e4 e5

-- what is not a packet adds nothing
pub added_short : (p : List ℕ) (a : BitString) → length p < 12 → added p a ≡ a
added_short p a h =
    ap (λ (b : BitString). record (xor a b) { bytes = take (length a.bytes) (xor a b).bytes }) (short p h)
    ∙ same_bits (record (xor a no_bits) { bytes = take (length a.bytes) (xor_bytes a.bytes []) }) a
    (xor_zero_r a.first) (xor_zero_r a.second) (xor_zero_r a.time) (xor_zero_r a.size) (ap (take (length a.bytes)) (xor_none a.bytes) ∙ take_all (length a.bytes) a.bytes (omega arith))

pub with_bytes : (a b : BitString) → b.first ≡ a.first → b.second ≡ a.second → b.time ≡ a.time → b.size ≡ a.size → (bytes : List ℕ) → b.bytes ≡ bytes → b ≡ record a { bytes = bytes }
with_bytes a b e1 e2 e3 e4 bytes e5 = same_bits b (record a { bytes = bytes }) e1 e2 e3 e4 e5
