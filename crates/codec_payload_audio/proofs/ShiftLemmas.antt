-- Lemmas on bytes that are bits from a place between bytes on.
use Rattle.std.proofs.Common.{◌≡◌, ℕ, ◌+◌, ◌-◌, ◌*◌, ◌/◌, ◌%◌, ◌^◌, ◌<◌, ◌≤◌, List, [], ◌∷◌, ◌++◌, length, get_or, set, take, drop, refl, sym, ◌∙◌, ap, arith, append_assoc, append-nil, length-drop, length-set, take-append-drop}
use Rattle.std.specs.Int.Bits.{bit_or}
use Rattle.std.proofs.Math.Nat.{add-zero, add_comm, mod-eq_of_lt, mod-mod, mul-add-div_right, mul-add-mod_self_right, mul-mod_left, mul_assoc}
use Rattle.std.proofs.lemmas.Nat.{mod-pow-add, or_shifted, pow-add, pow_pos, shl-shr, shr_below, shr_high}
use Rattle.std.proofs.Math.Seq.{take-add}
use Rattle.std.proofs.lemmas.List.{drop-drop, take_more_set, take-set-le, take_at, take_all, take-append-le, length-take-le, get_or_past}
use Rattle.codec_payload_base.specs.Bits.{Reader, bits, bits_of, left, here}
use Rattle.codec_payload_base.proofs.BitLemmas.{bits-same, bits-cat, bits-split, bits_of-append, length-bits, length-bits_of, take-bits, length_left, next_at, drop-bits_of}
use Rattle.codec_payload_audio.proofs.AmrWbCopyLemmas.{Carries, carries_first, carries_all, bits_of-push}

-- the low bits of one byte before the high bits of the next
joined : (s d h l : ℕ) → d + s ≡ 8 → l < 256 → bit_or (h * 2 ^ s % 256) (l / 2 ^ d) ≡ (h * 2 ^ 8 + l) / 2 ^ d % 2 ^ 8
joined s d h l width small =
    let v : ℕ = l / 2 ^ d in
    let n : ℕ = h * 2 ^ s + v in
    let inside : l < 2 ^ (s + d) = rw (add_comm s d, width) small in
    let low : v < 2 ^ s = shr_below l s d inside in
    let first : h * 2 ^ s % 256 ≡ h % 2 ^ d * 2 ^ s =
    ap (λ t. h * 2 ^ s % 2 ^ t) (sym width) ∙ mod-pow-add (h * 2 ^ s) d s ∙ rw (shl-shr h s, mul-mod_left h (2 ^ s)) (add-zero (h % 2 ^ d * 2 ^ s)) in
    let both : n % 2 ^ 8 ≡ h % 2 ^ d * 2 ^ s + v =
    ap (λ t. n % 2 ^ t) (sym width) ∙ mod-pow-add n d s ∙ rw (shr_high h s v low, mul-add-mod_self_right h (2 ^ s) v, mod-eq_of_lt low) refl in
    let parts : h * 2 ^ 8 ≡ h * 2 ^ s * 2 ^ d = ap (λ t. h * 2 ^ t) (sym width ∙ add_comm d s) ∙ ap (λ t. h * t) (pow-add 2 s d) ∙ sym (mul_assoc h (2 ^ s) (2 ^ d)) in
    let sum : (h * 2 ^ 8 + l) / 2 ^ d ≡ n = ap (λ t. (t + l) / 2 ^ d) parts ∙ mul-add-div_right (pow_pos d) (h * 2 ^ s) l in
    ap (λ t. bit_or t v) first ∙ or_shifted (h % 2 ^ d) s v low ∙ sym both ∙ ap (λ t. t % 2 ^ 8) (sym sum)

-- the byte that stands across two neighbours
pub across : (bs : List ℕ) (i s h l : ℕ) → 0 < s → s < 8 → 8 * i + s + 8 ≤ 8 * length bs → h ≡ get_or bs i 0 → l ≡ get_or bs (i + 1) 0 → h < 256 → l < 256
    → bits 8 (bit_or (h * 2 ^ s % 256) (l / 2 ^ (8 - s))) ≡ take 8 (drop (8 * i + s) (bits_of bs))
across bs i s h l some few there high low large small =
    let d : ℕ = 8 - s in
    let next : get_or bs (i + 1) 0 < 2 ^ 8 = omega arith in
    let width : s + 8 + d ≡ 16 = omega arith in
    let v : ℕ = (h * 2 ^ 8 + l) / 2 ^ d in
    ap (bits 8) (joined s d h l (omega arith) small)
    ∙ bits-same 8 (v % 256) v (mod-mod v (2 ^ 8))
    ∙ ap (λ t. bits 8 (t / 2 ^ d)) (rw (high, low) refl)
    ∙ sym (next_at bs i s 8 d width there next)

-- the first bytes of a list are a front, and i bytes that are the bits from the one at s on
pub record Shifted (front now : List ℕ) (start : ℕ) (bs : List ℕ) (s i : ℕ) : Type 0 where
  pub kept : take start now ≡ take start front
  pub size : length now ≡ length front
  pub so_far : bits_of (take (start + i) now) ≡ bits_of (take start front) ++ take (8 * i) (drop s (bits_of bs))

pub shifted_none : (front : List ℕ) (start : ℕ) (bs : List ℕ) (s : ℕ) → Shifted front front start bs s 0
shifted_none front start bs s = record { kept = refl; size = refl; so_far = ap (λ t. bits_of (take t front)) (omega arith) ∙ sym (append-nil (bits_of (take start front))) }

pub shifted_more : (front now : List ℕ) (start : ℕ) (bs : List ℕ) (s i v : ℕ) → start + i < length front → bits 8 v ≡ take 8 (drop (8 * i + s) (bits_of bs))
    → Shifted front now start bs s i → Shifted front (set now (start + i) v) start bs s (i + 1)
shifted_more front now start bs s i v inside is c =
    let there : start + i < length now = omega (arith, c.size) in
    let before : start ≤ start + i = omega arith in
    let more : take (start + (i + 1)) (set now (start + i) v) ≡ take (start + i) now ++ v ∷ [] = ap (λ t. take t (set now (start + i) v)) (omega arith) ∙ take_more_set now (start + i) v there in
    let next : take 8 (drop (8 * i) (drop s (bits_of bs))) ≡ bits 8 v = ap (take 8) (drop-drop (8 * i) s (bits_of bs) ∙ ap (λ t. drop t (bits_of bs)) (omega arith)) ∙ sym is in
    let all : take (8 * (i + 1)) (drop s (bits_of bs)) ≡ take (8 * i) (drop s (bits_of bs)) ++ bits 8 v = ap (λ t. take t (drop s (bits_of bs))) (omega arith)
    ∙ take-add (8 * i) 8 (drop s (bits_of bs)) ∙ ap (λ t. take (8 * i) (drop s (bits_of bs)) ++ t) next in
    record {
      kept = take-set-le start now (start + i) v before ∙ c.kept;
      size = length-set now (start + i) v ∙ c.size;
      so_far =
          ap bits_of more
          ∙ bits_of-push (take (start + i) now) v
          ∙ ap (λ t. t ++ bits 8 v) c.so_far
          ∙ append_assoc (bits_of (take start front)) (take (8 * i) (drop s (bits_of bs))) (bits 8 v)
          ∙ ap (λ t. bits_of (take start front) ++ t) (sym all);
    }

-- the bits that are left, from the byte on in which the place stands
pub left_here : (r : Reader) → left r ≡ drop (r.place % 8) (bits_of (here r))
left_here r =
    let place : 8 * (r.place / 8) + r.place % 8 ≡ r.place = omega arith in
    sym (ap (drop (r.place % 8)) (sym (drop-bits_of (r.place / 8) r.bytes)) ∙ drop-drop (r.place % 8) (8 * (r.place / 8)) (bits_of r.bytes) ∙ ap (λ t. drop t (bits_of r.bytes)) place)

-- whole bytes are their bits
pub whole_here : (r : Reader) (n : ℕ) → r.place % 8 ≡ 0 → n ≤ length (here r) → bits_of (take n (here r)) ≡ take (8 * n) (left r)
whole_here r n whole there =
    let l : left r ≡ bits_of (here r) = left_here r ∙ ap (λ t. drop t (bits_of (here r))) whole in
    let parts : bits_of (here r) ≡ bits_of (take n (here r)) ++ bits_of (drop n (here r)) = ap bits_of (sym (take-append-drop n (here r))) ∙ bits_of-append (take n (here r)) (drop n (here r)) in
    let size : length (bits_of (take n (here r))) ≡ 8 * n = length-bits_of (take n (here r)) ∙ ap (λ t. 8 * t) (length-take-le n (here r) there) in
    sym (ap (take (8 * n)) (l ∙ parts) ∙ take_at (bits_of (take n (here r))) (bits_of (drop n (here r))) (8 * n) size)

-- if the bytes are present, 8 bits for each remain
pub there_here : (r : Reader) (n : ℕ) → 8 * n ≤ length (left r) → 8 * n ≤ 8 * length (here r) - r.place % 8
there_here r n h = omega (arith, h, length_left r.bytes r.place, length-drop (r.place / 8) r.bytes)

-- ---- sending, two bits to the right

-- the first byte that holds speech
six_more : (written : List ℕ) (carry b : ℕ) (front : List ℕ) → b < 256 → Carries written carry front → bits_of (written ++ bit_or carry (b / 4) ∷ []) ≡ front ++ bits 6 (b / 4)
six_more written carry b front small c =
    let high : carry ≡ carry / 64 * 2 ^ 6 = omega (arith, c.clear) in
    let low : b / 4 < 2 ^ 6 = omega arith in
    let joined : bit_or carry (b / 4) ≡ carry / 64 * 2 ^ 6 + b / 4 = ap (λ t. bit_or t (b / 4)) high ∙ or_shifted (carry / 64) 6 (b / 4) low in
    let byte : bits 8 (bit_or carry (b / 4)) ≡ bits 2 (carry / 64) ++ bits 6 (b / 4) = ap (bits 8) joined ∙ bits-cat 6 2 (carry / 64) (b / 4) low in
    bits_of-push written (bit_or carry (b / 4))
    ∙ ap (λ t. bits_of written ++ t) byte
    ∙ sym (append_assoc (bits_of written) (bits 2 (carry / 64)) (bits 6 (b / 4)))
    ∙ ap (λ t. t ++ bits 6 (b / 4)) c.so_far

-- the last byte that holds speech
last_byte : (b : ℕ) → bits 8 (b * 64 % 256) ≡ bits 2 b ++ bits 6 0
last_byte b =
    let high : b * 64 % 256 / 64 % 2 ^ 2 ≡ b % 2 ^ 2 = omega arith in
    let low : b * 64 % 256 % 2 ^ 6 ≡ 0 % 2 ^ 6 = omega arith in
    bits-split 6 2 (b * 64 % 256)
    ∙ ap (λ t. t ++ bits 6 (b * 64 % 256)) (bits-same 2 (b * 64 % 256 / 64) b high)
    ∙ ap (λ t. bits 2 b ++ t) (bits-same 6 (b * 64 % 256) 0 low)

first_six : (bs : List ℕ) (b : ℕ) → 0 < length bs → b ≡ get_or bs 0 0 → take 6 (bits_of bs) ≡ bits 6 (b / 4)
first_six [] b some is = absurd (omega (arith, some))
first_six (x ∷ rest) b some is =
    let short : 6 ≤ length (bits 8 x) = omega (arith, length-bits 8 x) in
    take-append-le 6 (bits 8 x) (bits_of rest) short ∙ take-bits 2 6 x ∙ ap (λ t. bits 6 (t / 4)) (sym is)

last_two : (bs : List ℕ) (n b : ℕ) → length bs ≡ n + 1 → b ≡ get_or bs n 0 → drop (8 * n + 6) (bits_of bs) ≡ bits 2 b
last_two bs n b size is =
    let none : get_or bs (n + 1) 0 ≡ 0 = get_or_past bs (n + 1) 0 (omega arith) in
    let there : 8 * n + 6 + 2 ≤ 8 * length bs = omega arith in
    let value : (get_or bs n 0 * 2 ^ 8 + get_or bs (n + 1) 0) / 2 ^ 8 ≡ b = omega (arith, none, is) in
    sym (take_all 2 (drop (8 * n + 6) (bits_of bs)) (omega (arith, length_left bs (8 * n + 6))))
    ∙ next_at bs n 6 2 8 refl there (omega (arith, none))
    ∙ ap (bits 2) value

pub sent_all : (toc : ℕ) (bs now : List ℕ) (n first last : ℕ) → toc < 128 → toc % 4 ≡ 0 → length bs ≡ n + 1 → first < 256 → first ≡ get_or bs 0 0 → last ≡ get_or bs n 0
    → bits_of now ≡ bits_of (bit_or 240 (toc / 16) ∷ bit_or (toc * 16 % 256) (first / 4) ∷ []) ++ take (8 * n) (drop 6 (bits_of bs))
    → bits_of (now ++ (last * 64 % 256) ∷ []) ≡ bits 4 15 ++ bits 6 (toc / 4) ++ bits_of bs ++ bits 6 0
sent_all toc bs now n first last small clear size fits is end so_far =
    let head : List ℕ = bits 4 15 ++ bits 6 (toc / 4) in
    let some : 0 < length bs = omega arith in
    let begun : bits_of (bit_or 240 (toc / 16) ∷ bit_or (toc * 16 % 256) (first / 4) ∷ []) ≡ head ++ take 6 (bits_of bs) =
    six_more (bit_or 240 (toc / 16) ∷ []) (toc * 16 % 256) first head fits (carries_first toc small clear) ∙ ap (λ t. head ++ t) (sym (first_six bs first some is)) in
    let front : take 6 (bits_of bs) ++ take (8 * n) (drop 6 (bits_of bs)) ≡ take (8 * n + 6) (bits_of bs) = sym (take-add 6 (8 * n) (bits_of bs)) ∙ ap (λ t. take t (bits_of bs)) (omega arith) in
    let rest : bits_of now ≡ head ++ take (8 * n + 6) (bits_of bs) =
    so_far ∙ ap (λ t. t ++ take (8 * n) (drop 6 (bits_of bs))) begun ∙ append_assoc head (take 6 (bits_of bs)) (take (8 * n) (drop 6 (bits_of bs))) ∙ ap (λ t. head ++ t) front in
    let whole : take (8 * n + 6) (bits_of bs) ++ bits 2 last ≡ bits_of bs = ap (λ t. take (8 * n + 6) (bits_of bs) ++ t) (sym (last_two bs n last size end))
    ∙ take-append-drop (8 * n + 6) (bits_of bs) in
    bits_of-push now (last * 64 % 256)
    ∙ ap (λ t. bits_of now ++ t) (last_byte last)
    ∙ sym (append_assoc (bits_of now) (bits 2 last) (bits 6 0))
    ∙ ap (λ t. t ++ bits 6 0)
    (ap (λ t. t ++ bits 2 last) rest
    ∙ append_assoc head (take (8 * n + 6) (bits_of bs)) (bits 2 last)
    ∙ ap (λ t. head ++ t) whole)

-- no speech
pub sent_none : (toc : ℕ) → toc < 128 → toc % 4 ≡ 0 → bits_of (bit_or 240 (toc / 16) ∷ (toc * 16 % 256) ∷ []) ≡ bits 4 15 ++ bits 6 (toc / 4) ++ [] ++ bits 6 0
sent_none toc small clear =
    carries_all (bit_or 240 (toc / 16) ∷ []) (toc * 16 % 256) (bits 4 15 ++ bits 6 (toc / 4)) (carries_first toc small clear)
    ∙ ap (λ t. t ++ bits 6 0) (sym (append-nil (bits 4 15 ++ bits 6 (toc / 4))))
