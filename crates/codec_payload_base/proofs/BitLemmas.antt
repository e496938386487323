-- Lemmas on bits.
use Rattle.std.proofs.Common.{◌≡◌, ℕ, zero, suc, ◌+◌, ◌-◌, ◌*◌, ◌/◌, ◌%◌, ◌^◌, ◌<◌, ◌≤◌, List, [], ◌∷◌, ◌++◌, length, get_or, take, drop, replicate, refl, sym, lit<, Some, ◌∙◌, ap, arith, append_assoc, length-append, length-drop, zero-le}
use Rattle.std.proofs.lemmas.Grind.{or_after_shift}
use Rattle.std.specs.Int.Bits.{bit_and, bit_or}
use Rattle.std.proofs.lemmas.Nat.{pow_pos, mod_low, shr_high, shr-shr, shr_split, field_of, and_mask, one_shl}
use Rattle.std.proofs.Math.Nat.{mod-eq_of_lt, mod-lt, mod-mod, add-suc, add-zero, zero-div}
use Rattle.std.proofs.Math.Numerals.{one-add}
use Rattle.std.proofs.Math.Pow.{mod-mod-pow}
use Rattle.std.proofs.lemmas.List.{take_at, drop_at, drop_all, drop-drop, take-append-le, drop-append-le, get_or-drop, take-append-drop}
use Rattle.codec_payload_base.specs.Bits.{Reader, bits, bits_of, left, moved, ReadsBits}

pub length-bits : (n v : ℕ) → length (bits n v) ≡ n
unfolding bits
length-bits zero v = refl
length-bits (suc n) v = ap suc (length-bits n v)

pub length-bits_of : (bs : List ℕ) → length (bits_of bs) ≡ 8 * length bs
length-bits_of [] = refl
length-bits_of (b ∷ bs) = omega (arith, length-append (bits 8 b) (bits_of bs), length-bits 8 b, length-bits_of bs)

pub bits_of-append : (xs ys : List ℕ) → bits_of (xs ++ ys) ≡ bits_of xs ++ bits_of ys
bits_of-append [] ys = refl
bits_of-append (x ∷ xs) ys = ap (λ t. bits 8 x ++ t) (bits_of-append xs ys) ∙ sym (append_assoc (bits 8 x) (bits_of xs) (bits_of ys))

pub none-bits : (v : ℕ) → bits 0 v ≡ []
unfolding bits
none-bits v = refl

-- bits show their number up to multiples of 2 ^ n
pub bits-same : (n v w : ℕ) → v % 2 ^ n ≡ w % 2 ^ n → bits n v ≡ bits n w
unfolding bits
bits-same zero v w h = refl
bits-same (suc n) v w h =
    let e : v % 2 ^ (1 + n) ≡ w % 2 ^ (1 + n) = rw one-add h in
    let top : v / 2 ^ n % 2 ≡ w / 2 ^ n % 2 = sym (field_of v 1 n) ∙ ap (λ t. t / 2 ^ n) e ∙ field_of w 1 n in
    let low : v % 2 ^ n ≡ w % 2 ^ n = sym (mod-mod-pow v 1 n) ∙ ap (λ t. t % 2 ^ n) e ∙ mod-mod-pow w 1 n in
    let rest : bits n v ≡ bits n w = bits-same n v w low in
    cc

-- a number in n + m bits is its high part in m bits before its low part in n bits
pub bits-cat : (n m x y : ℕ) → y < 2 ^ n → bits (n + m) (x * 2 ^ n + y) ≡ bits m x ++ bits n y
unfolding bits
bits-cat n zero x y h = rw add-zero (bits-same n (x * 2 ^ n + y) y (mod_low x n y h ∙ sym (mod-eq_of_lt h)))
bits-cat n (suc m) x y h =
    let top : (x * 2 ^ n + y) / 2 ^ (n + m) % 2 ≡ x / 2 ^ m % 2 = ap (λ t. t % 2) (sym (shr-shr (x * 2 ^ n + y) n m) ∙ ap (λ t. t / 2 ^ m) (shr_high x n y h)) in
    let rest : bits (n + m) (x * 2 ^ n + y) ≡ bits m x ++ bits n y = bits-cat n m x y h in
    rw add-suc (cc)

-- the front of the bits of a number, and the rest
pub bits-split : (n m v : ℕ) → bits (n + m) v ≡ bits m (v / 2 ^ n) ++ bits n v
bits-split n m v =
    ap (bits (n + m)) (sym (shr_split v n))
    ∙ bits-cat n m (v / 2 ^ n) (v % 2 ^ n) (mod-lt v (pow_pos n))
    ∙ ap (λ t. bits m (v / 2 ^ n) ++ t) (bits-same n (v % 2 ^ n) v (mod-mod v (2 ^ n)))

pub take-bits : (n m v : ℕ) → take m (bits (n + m) v) ≡ bits m (v / 2 ^ n)
take-bits n m v = rw bits-split (take_at (bits m (v / 2 ^ n)) (bits n v) m (length-bits m (v / 2 ^ n)))

pub drop-bits : (n m v : ℕ) → drop m (bits (n + m) v) ≡ bits n v
drop-bits n m v = rw bits-split (drop_at (bits m (v / 2 ^ n)) (bits n v) m (length-bits m (v / 2 ^ n)))

pub drop-bits_of : (i : ℕ) (bs : List ℕ) → drop (8 * i) (bits_of bs) ≡ bits_of (drop i bs)
drop-bits_of zero bs = refl
drop-bits_of (suc i) [] = drop_all (8 * suc i) [] (zero-le)
drop-bits_of (suc i) (b ∷ bs) =
    let e : 8 * suc i ≡ 8 + 8 * i = omega arith in
    rw e (sym (drop-drop (8 * i) 8 (bits 8 b ++ bits_of bs)) ∙ ap (drop (8 * i)) (drop_at (bits 8 b) (bits_of bs) 8 (length-bits 8 b)) ∙ drop-bits_of i bs)

pub length_left : (bs : List ℕ) (p : ℕ) → length (drop p (bits_of bs)) ≡ 8 * length bs - p
length_left bs p = length-drop p (bits_of bs) ∙ ap (λ t. t - p) (length-bits_of bs)

-- a piece that lies within the first of two joined lists
pub piece-append : {A : Type 0} → (xs ys : List A) (s n : ℕ) → s + n ≤ length xs → take n (drop s (xs ++ ys)) ≡ take n (drop s xs)
piece-append {A} xs ys s n h =
    let within : s ≤ length xs = omega arith in
    let short : n ≤ length (drop s xs) = omega (arith, length-drop s xs) in
    rw (drop-append-le s xs ys) (take-append-le n (drop s xs) ys short)

-- a piece of the bits of a number
pub piece-bits : (s n k v : ℕ) → take n (drop s (bits (k + n + s) v)) ≡ bits n (v / 2 ^ k)
piece-bits s n k v = rw (drop-bits (k + n) s v) (take-bits k n v)

-- the next bits of a byte string lie in its first two bytes
pub next-bits : (bs : List ℕ) (s n k : ℕ) → s + n + k ≡ 16 → s + n ≤ 8 * length bs → get_or bs 1 0 < 2 ^ 8 → take n (drop s (bits_of bs)) ≡ bits n ((get_or bs 0 0 * 2 ^ 8 + get_or bs 1 0) / 2 ^ k)
next-bits [] s n k e h l =
    let none : n ≡ 0 = omega arith in
    rw none (sym (none-bits ((0 * 2 ^ 8 + 0) / 2 ^ k)))
next-bits (a ∷ []) s n k e h l =
    let within : s + n ≤ length (bits 8 a) = omega (arith, length-bits 8 a) in
    let width : k + n + s ≡ 8 + 8 = omega arith in
    piece-append (bits 8 a) [] s n within
    ∙ sym (piece-append (bits 8 a) (bits 8 0) s n within)
    ∙ ap (λ t. take n (drop s t)) (sym (bits-cat 8 8 a 0 l))
    ∙ ap (λ t. take n (drop s (bits t (a * 2 ^ 8 + 0)))) (sym width)
    ∙ piece-bits s n k (a * 2 ^ 8 + 0)
next-bits (a ∷ b ∷ rest) s n k e h l =
    let within : s + n ≤ length (bits (8 + 8) (a * 2 ^ 8 + b)) = omega (arith, length-bits (8 + 8) (a * 2 ^ 8 + b)) in
    let width : k + n + s ≡ 8 + 8 = omega arith in
    ap (λ t. take n (drop s t)) (sym (append_assoc (bits 8 a) (bits 8 b) (bits_of rest)) ∙ ap (λ t. t ++ bits_of rest) (sym (bits-cat 8 8 a b l)))
    ∙ piece-append (bits (8 + 8) (a * 2 ^ 8 + b)) (bits_of rest) s n within
    ∙ ap (λ t. take n (drop s (bits t (a * 2 ^ 8 + b)))) (sym width)
    ∙ piece-bits s n k (a * 2 ^ 8 + b)

-- the next bits, from the byte and bit of the place
pub next_at : (bs : List ℕ) (i s n k : ℕ) → s + n + k ≡ 16 → 8 * i + s + n ≤ 8 * length bs → get_or bs (i + 1) 0 < 2 ^ 8 → take n (drop (8 * i + s) (bits_of bs)) ≡ bits n ((get_or bs i 0 * 2 ^ 8 + get_or bs (i + 1) 0) / 2 ^ k)
next_at bs i s n k e h l =
    let first : get_or (drop i bs) 0 0 ≡ get_or bs i 0 = get_or-drop i bs 0 0 ∙ ap (λ t. get_or bs t 0) (omega arith) in
    let second : get_or (drop i bs) 1 0 ≡ get_or bs (i + 1) 0 = get_or-drop i bs 1 0 in
    let small : get_or (drop i bs) 1 0 < 2 ^ 8 = omega arith in
    let within : s + n ≤ 8 * length (drop i bs) = omega (arith, length-drop i bs) in
    ap (λ t. take n t) (sym (drop-drop s (8 * i) (bits_of bs)) ∙ ap (drop s) (drop-bits_of i bs))
    ∙ next-bits (drop i bs) s n k e within small
    ∙ ap (λ t. bits n (t / 2 ^ k)) (rw (first, second) refl)

-- the number that a read computes from two bytes
pub record IsWindow (bs : List ℕ) (p n v : ℕ) : Type 0 where
  pub fits : v < 2 ^ n
  pub front : drop p (bits_of bs) ≡ bits n v ++ drop (p + n) (bits_of bs)

pub window_value : (bs : List ℕ) (i s n hi lo : ℕ) → hi ≡ get_or bs i 0 → lo ≡ get_or bs (i + 1) 0 → hi < 256 → lo < 256 → s < 8 → n ≤ 8 → 8 * i + s + n ≤ 8 * length bs → IsWindow bs (8 * i + s) n (bit_and (bit_or (hi * 256 % 65536) lo / 2 ^ (16 - s - n)) (1 * 2 ^ n % 65536 - 1))
window_value bs i s n hi lo p q a b c d h =
    let word : bit_or (hi * 256 % 65536) lo ≡ hi * 2 ^ 8 + lo = or_after_shift hi 256 65536 lo refl b (omega arith) in
    let mask : 1 * 2 ^ n % 65536 ≡ 2 ^ n = one_shl n 16 (omega arith) in
    let small : get_or bs (i + 1) 0 < 2 ^ 8 = omega arith in
    let width : s + n + (16 - s - n) ≡ 16 = omega arith in
    let whole : ℕ = (hi * 2 ^ 8 + lo) / 2 ^ (16 - s - n) in
    let value : bit_and (bit_or (hi * 256 % 65536) lo / 2 ^ (16 - s - n)) (1 * 2 ^ n % 65536 - 1) ≡ whole % 2 ^ n = rw (word, mask, and_mask) refl in
    rw value record {
      fits = mod-lt whole (pow_pos n);
      front =
          sym (take-append-drop n (drop (8 * i + s) (bits_of bs)))
          ∙ ap (λ t. t ++ drop n (drop (8 * i + s) (bits_of bs))) (next_at bs i s n (16 - s - n) width h small ∙ ap (λ t. bits n (t / 2 ^ (16 - s - n))) (rw (p, q) refl) ∙ bits-same n whole (whole % 2 ^ n) (sym (mod-mod whole (2 ^ n))))
          ∙ ap (λ t. bits n (whole % 2 ^ n) ++ t) (drop-drop n (8 * i + s) (bits_of bs));
    }

-- two consecutive bytes are a number of 16 bits
pub two_bytes : (h l : ℕ) (rest : List ℕ) → l < 256 → bits 8 h ++ (bits 8 l ++ rest) ≡ bits 16 (h * 256 + l) ++ rest
two_bytes h l rest b = sym (append_assoc (bits 8 h) (bits 8 l) rest) ∙ ap (λ t. t ++ rest) (sym (bits-cat 8 8 h l b))

-- no bit is always there
pub reads_none : (r : Reader) → ReadsBits 0 r r (Some 0)
reads_none r = (lit< tt, ap (λ t. t ++ left r) (sym (none-bits 0)), ap (λ p. record r { place = p }) (sym (add-zero r.place)))

-- two bytes read one after the other are 16 bits read
pub reads_two : (a b c : Reader) (h l v : ℕ) → v ≡ h * 256 + l → ReadsBits 8 a b (Some h) → ReadsBits 8 b c (Some l) → ReadsBits 16 a c (Some v)
reads_two a b c h l v e first second =
    let high : h < 2 ^ 8 = first.0 in
    let low : l < 2 ^ 8 = second.0 in (
      omega arith,
      rw e (first.1 ∙ ap (λ t. bits 8 h ++ t) second.1 ∙ two_bytes h l (left c) low),
      second.2 ∙ ap (λ r. moved r 8) first.2 ∙ ap (λ p. record a { place = p }) (omega arith),
    )

pub bits-zero : (n : ℕ) → bits n 0 ≡ replicate n 0
unfolding bits
bits-zero zero = refl
bits-zero (suc n) =
    let top : 0 / 2 ^ n % 2 ≡ 0 = ap (λ t. t % 2) (zero-div (2 ^ n)) in
    rw (top, bits-zero n) refl
