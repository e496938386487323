-- A read of a LEB128 text at a whole byte returns the number at the front of the bytes there.
use Rattle.std.proofs.Common.{◌≡◌, ℕ, zero, suc, ◌+◌, ◌-◌, ◌*◌, ◌<◌, List, [], ◌∷◌, ◌++◌, length, drop, get_or, Some, None, refl, sym, ap, ◌∙◌, ◌⊎◌, inl, inr, arith}
use Rattle.std.specs.List.{AllByRecursion}
use Rattle.std.proofs.lemmas.Bool.{le-ltb}
use Rattle.std.proofs.lemmas.List.{append-nil, length-drop, nil_from_length}
use Rattle.codec_payload_base.specs.Bits.{Reader, bits_of, here, left, Passes, ReadsLebAtFront}
use Rattle.codec_payload_base.specs.Leb.{AllGoOn, leb_front, leb_at}
use Rattle.codec_payload_base.proofs.BitLemmas.{bits_of-append, drop-bits_of, length_left}
use Rattle.codec_payload_base.proofs.BytesLemmas.{bytes_of-bits_of}
use Rattle.codec_payload_base.specs.Bits.{bytes_of}
use Rattle.codec_payload_base.proofs.LebLaws.{leb_complete}

-- ---- bytes with the continuation bit only are not a number

all_front_none : (k : ℕ) (text rest : List ℕ) → AllGoOn text → length text ≡ suc k → leb_front k (text ++ rest) ≡ None
all_front_none zero (b ∷ []) rest all e = rw (le-ltb b 128 all.0) refl
all_front_none zero (b ∷ c ∷ bs) rest all e = absurd (omega (arith, e))
all_front_none (suc k) (b ∷ bs) rest all e = rw (le-ltb b 128 all.0, all_front_none k bs rest all.1 (omega (arith, e))) refl
all_front_none k [] rest all e = absurd (omega (arith, e))

short_front_none : (k : ℕ) (text : List ℕ) → AllGoOn text → leb_front k text ≡ None
short_front_none k [] all = refl
short_front_none zero (b ∷ bs) all = rw (le-ltb b 128 all.0) refl
short_front_none (suc k) (b ∷ bs) all = rw (le-ltb b 128 all.0, short_front_none k bs all.1) refl

ten_none : (text rest : List ℕ) → AllGoOn text → length text ≡ 10 → leb_at (text ++ rest) ≡ None
unfolding leb_at
ten_none text rest all e = rw (all_front_none 9 text rest all e) refl

short_none : (text : List ℕ) → AllGoOn text → leb_at text ≡ None
unfolding leb_at
short_none text all = rw (short_front_none 9 text all) refl

-- ---- bytes and their bits

abbrev AreBytes : List ℕ → Type 0
AreBytes xs = AllByRecursion (λ b. b < 256) xs

bytes_at : (xs : List ℕ) → AreBytes xs → (i : ℕ) → i < length xs → get_or xs i 0 < 256
bytes_at [] all i lt = absurd (omega (arith, lt))
bytes_at (x ∷ xs) all zero lt = all.0
bytes_at (x ∷ xs) all (suc i) lt = bytes_at xs all.1 i (omega (arith, lt))

bytes_drop : (k : ℕ) (xs : List ℕ) → AreBytes xs → AreBytes (drop k xs)
bytes_drop zero xs all = all
bytes_drop (suc k) [] all = tt
bytes_drop (suc k) (x ∷ xs) all = bytes_drop k xs all.1

bytes_append : (xs ys : List ℕ) → AreBytes xs → AreBytes ys → AreBytes (xs ++ ys)
bytes_append [] ys a b = b
bytes_append (x ∷ xs) ys a b = (a.0, bytes_append xs ys a.1 b)

same_bytes : (xs ys : List ℕ) → AreBytes xs → AreBytes ys → bits_of xs ≡ bits_of ys → xs ≡ ys
same_bytes xs ys a b e = sym (bytes_of-bits_of xs (bytes_at xs a)) ∙ ap bytes_of e ∙ bytes_of-bits_of ys (bytes_at ys b)

-- ---- readers at a whole byte

module _ (old new : Reader) (i : ℕ) (text : List ℕ) (whole : old.place ≡ 8 * i) (all : AreBytes old.bytes) (passes : Passes text old new) where
  after : new ≡ record { bytes = old.bytes; place = 8 * (i + length text) }
  after = passes.place ∙ ap (λ (p : ℕ). record old { place = p }) (omega (arith, whole))

  here_old : here old ≡ drop i old.bytes
  here_old = ap (λ (k : ℕ). drop k old.bytes) (omega (arith, whole))

  here_new : here new ≡ drop (i + length text) old.bytes
  here_new = ap here after ∙ ap (λ (k : ℕ). drop k old.bytes) (omega arith)

  left_new : left new ≡ bits_of (drop (i + length text) old.bytes)
  left_new = ap left after ∙ drop-bits_of (i + length text) old.bytes

  left_old : left old ≡ bits_of (drop i old.bytes)
  left_old = ap (λ (p : ℕ). drop p (bits_of old.bytes)) whole ∙ drop-bits_of i old.bytes

  front_here : here old ≡ text ++ here new
  front_here =
      here_old
      ∙ same_bytes (drop i old.bytes) (text ++ drop (i + length text) old.bytes) (bytes_drop i old.bytes all) (bytes_append text (drop (i + length text) old.bytes) passes.bytes (bytes_drop (i + length text) old.bytes all))
      (sym left_old ∙ passes.front ∙ ap (λ (t : List ℕ). bits_of text ++ t) left_new ∙ sym (bits_of-append text (drop (i + length text) old.bytes)))
      ∙ ap (λ (t : List ℕ). text ++ t) (sym here_new)

  none_here : length (left new) < 8 → here new ≡ []
  none_here few =
      let size : length (left new) ≡ 8 * length old.bytes - 8 * (i + length text) = ap (λ (r : Reader). length (left r)) after ∙ length_left old.bytes (8 * (i + length text)) in
      nil_from_length (here new) (ap length here_new ∙ length-drop (i + length text) old.bytes ∙ omega (arith, few, size))

  no_number : AllGoOn text → ((length text ≡ 10) ⊎ ((length text < 10) × (length (left new) < 8))) → leb_at (here old) ≡ None
  no_number go_on ends =
      elim ends [
        | inl ten ↦ ap leb_at front_here ∙ ten_none text (here new) go_on ten
        | inr short ↦ ap leb_at (front_here ∙ (ap (λ (t : List ℕ). text ++ t) (none_here short.1) ∙ append-nil text)) ∙ short_none text go_on
      ]

pub reads_leb_at_front : ReadsLebAtFront
reads_leb_at_front old new i None whole all reads = no_number old new i reads.0 whole all reads.2 reads.1 reads.3
reads_leb_at_front old new i (Some n) whole all reads = leb_complete (here old) n (here new) reads.0 reads.1 (front_here old new i reads.0 whole all reads.2)
