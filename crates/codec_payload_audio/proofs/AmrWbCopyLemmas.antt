-- Lemmas on copies of bits whose distance is not a multiple of a byte.
use Rattle.std.proofs.Common.{◌≡◌, ℕ, suc, ◌+◌, ◌-◌, ◌*◌, ◌/◌, ◌%◌, ◌^◌, ◌<◌, ◌≤◌, List, [], ◌∷◌, ◌++◌, length, get_or, take, drop, set, replicate, refl, sym, ◌∙◌, ap, arith, append_assoc, append-nil, length-append}
use Rattle.std.specs.Int.Bits.{bit_or}
use Rattle.std.proofs.lemmas.Nat.{pow_pos, or_shifted, shr-shr}
use Rattle.std.proofs.lemmas.List.{take-append-le, length-take, length-take-le, take-take, drop_all, set_split, drop_more, take-append-drop}
use Rattle.std.proofs.Math.Seq.{take-append-add}
use Rattle.codec_payload_base.specs.Bits.{bits, bits_of}
use Rattle.codec_payload_base.proofs.BitLemmas.{bits-same, bits-cat, bits-split, bits_of-append, length-bits, length-bits_of, take-bits, bits-zero}
use Rattle.codec_payload_audio.specs.AmrWb.{gap, padded}

-- The bytes written, and two bits that are still in the carry, are the front.
pub record Carries (written : List ℕ) (carry : ℕ) (front : List ℕ) : Type 0 where
  pub clear : carry % 64 ≡ 0
  pub small : carry < 256
  pub so_far : bits_of written ++ bits 2 (carry / 64) ≡ front

pub bits_of-push : (xs : List ℕ) (b : ℕ) → bits_of (xs ++ b ∷ []) ≡ bits_of xs ++ bits 8 b
bits_of-push xs b = bits_of-append xs (b ∷ []) ∙ ap (λ t. bits_of xs ++ t) (append-nil (bits 8 b))

pub carries_all : (written : List ℕ) (carry : ℕ) (front : List ℕ) → Carries written carry front → bits_of (written ++ carry ∷ []) ≡ front ++ bits 6 0
carries_all written carry front c =
    bits_of-push written carry
    ∙ ap (λ t. bits_of written ++ t) (bits-split 6 2 carry ∙ ap (λ t. bits 2 (carry / 64) ++ t) (bits-same 6 carry 0 c.clear))
    ∙ sym (append_assoc (bits_of written) (bits 2 (carry / 64)) (bits 6 0))
    ∙ ap (λ t. t ++ bits 6 0) c.so_far

pub carries_first : (toc : ℕ) → toc < 128 → toc % 4 ≡ 0 → Carries (bit_or 240 (toc / 16) ∷ []) (toc * 16 % 256) (bits 4 15 ++ bits 6 (toc / 4))
carries_first toc small clear =
    let low : toc / 16 < 2 ^ 4 = omega arith in
    let byte : bits 8 (bit_or 240 (toc / 16)) ≡ bits 4 15 ++ bits 4 (toc / 16) = ap (bits 8) (or_shifted 15 4 (toc / 16) low) ∙ bits-cat 4 4 15 (toc / 16) low in
    let kept : toc * 16 % 256 / 64 % 2 ^ 2 ≡ toc / 4 % 2 ^ 2 = omega arith in
    let six : bits 6 (toc / 4) ≡ bits 4 (toc / 16) ++ bits 2 (toc / 4) = bits-split 2 4 (toc / 4) ∙ ap (λ t. bits 4 t ++ bits 2 (toc / 4)) (shr-shr toc 2 2) in
    record {
      clear = omega arith;
      small = omega arith;
      so_far =
          ap (λ t. t ++ bits 2 (toc * 16 % 256 / 64)) (append-nil (bits 8 (bit_or 240 (toc / 16))) ∙ byte)
          ∙ append_assoc (bits 4 15) (bits 4 (toc / 16)) (bits 2 (toc * 16 % 256 / 64))
          ∙ ap (λ t. bits 4 15 ++ (bits 4 (toc / 16) ++ t)) (bits-same 2 (toc * 16 % 256 / 64) (toc / 4) kept)
          ∙ ap (λ t. bits 4 15 ++ t) (sym six);
    }

-- a front that ends r bits after whole bytes
pub cut_front : (xs ys : List ℕ) (b n r s : ℕ) → s + r ≡ 8 → n ≡ 8 * length xs + r → take n (bits_of (xs ++ b ∷ ys)) ≡ bits_of xs ++ bits r (b / 2 ^ s)
cut_front xs ys b n r s width e =
    let size : length (bits_of xs) ≡ 8 * length xs = length-bits_of xs in
    let short : r ≤ length (bits 8 b) = omega (arith, length-bits 8 b) in
    let count : n ≡ length (bits_of xs) + r = omega arith in
    ap (take n) (bits_of-append xs (b ∷ ys))
    ∙ ap (λ t. take t (bits_of xs ++ (bits 8 b ++ bits_of ys))) count
    ∙ take-append-add (bits_of xs) (bits 8 b ++ bits_of ys) r
    ∙ ap (λ t. bits_of xs ++ t) (take-append-le r (bits 8 b) (bits_of ys) short ∙ ap (λ t. take r (bits t b)) (sym width) ∙ take-bits s r b)

-- to clear the low bits of the last byte keeps the bits before them, and zeros up to a byte
pub cut_last : (xs ys : List ℕ) (b n r s : ℕ) → r + s ≡ 8 → s < 8 → n ≡ 8 * length xs + r → bits_of (xs ++ (b / 2 ^ s * 2 ^ s) ∷ []) ≡ padded (take n (bits_of (xs ++ b ∷ ys)))
cut_last xs ys b n r s whole some e =
    let kept : b / 2 ^ s * 2 ^ s ≡ b / 2 ^ s * 2 ^ s + 0 = omega arith in
    let width : s + r ≡ 8 = omega arith in
    let byte : bits 8 (b / 2 ^ s * 2 ^ s) ≡ bits r (b / 2 ^ s) ++ bits s 0 =
    ap (bits 8) kept ∙ ap (λ t. bits t (b / 2 ^ s * 2 ^ s + 0)) (sym width) ∙ bits-cat s r (b / 2 ^ s) 0 (pow_pos s) in
    let front : take n (bits_of (xs ++ b ∷ ys)) ≡ bits_of xs ++ bits r (b / 2 ^ s) = cut_front xs ys b n r s width e in
    let size : length (bits_of xs ++ bits r (b / 2 ^ s)) ≡ n = omega (arith, length-append (bits_of xs) (bits r (b / 2 ^ s)), length-bits_of xs, length-bits r (b / 2 ^ s)) in
    let spare : gap n ≡ s = omega arith in
    bits_of-push xs (b / 2 ^ s * 2 ^ s)
    ∙ ap (λ t. bits_of xs ++ t) byte
    ∙ sym (append_assoc (bits_of xs) (bits r (b / 2 ^ s)) (bits s 0))
    ∙ ap (λ t. (bits_of xs ++ bits r (b / 2 ^ s)) ++ t) (bits-zero s ∙ ap (λ t. replicate t 0) (sym (ap gap size ∙ spare)))
    ∙ sym (ap padded front)

-- the result of the cut, if the last byte kept is at k
pub cut_items : (items : List ℕ) (n m k b s : ℕ) → 0 < n → n ≤ 8 * length items → m ≡ k + 1 → 8 * k < n → n ≤ 8 * m → s ≡ (8 - n % 8) % 8 → b ≡ get_or items k 0
    → bits_of (set (take m items) k (b / 2 ^ s * 2 ^ s)) ≡ padded (take n (bits_of items))
cut_items items n m k b s some within last above below spare is =
    let v : ℕ = b / 2 ^ s * 2 ^ s in
    let inside : k < length items = omega arith in
    let size : length (take k items) ≡ k = length-take-le k items (omega arith) in
    let kept : take k (take m items) ≡ take k items = take-take k m items (omega arith) in
    let none : drop (suc k) (take m items) ≡ [] = drop_all (suc k) (take m items) (omega (arith, length-take m items)) in
    let left_side : set (take m items) k v ≡ take k items ++ v ∷ [] =
    set_split (take m items) k v (omega (arith, length-take m items)) ∙ rw (kept, none) refl in
    let right_side : items ≡ take k items ++ b ∷ drop (k + 1) items =
    sym (take-append-drop k items) ∙ ap (λ t. take k items ++ t) (drop_more items k 0 inside ∙ ap (λ t. t ∷ drop (k + 1) items) (sym is)) in
    let sum : n - 8 * k + s ≡ 8 = omega arith in
    let count : n ≡ 8 * length (take k items) + (n - 8 * k) = omega arith in
    ap bits_of left_side
    ∙ cut_last (take k items) (drop (k + 1) items) b n (n - 8 * k) s sum (omega arith) count
    ∙ sym (ap (λ t. padded (take n (bits_of t))) right_side)
