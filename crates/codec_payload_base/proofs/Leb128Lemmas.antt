-- Lemmas on the read of a LEB128 text.
use Rattle.std.proofs.Common.{◌≡◌, ℕ, suc, ◌+◌, ◌-◌, ◌*◌, ◌%◌, ◌^◌, ◌<◌, ◌≤◌, List, [], ◌∷◌, ◌++◌, length, refl, sym, ◌∙◌, ap, Some, None, inl, inr, arith, append_assoc, append-nil, lit<}
use Rattle.std.specs.Int.Bits.{bit_or}
use Rattle.std.proofs.Math.Nat.{mod-eq_of_lt, add-zero}
use Rattle.std.proofs.lemmas.Nat.{pow_pos, pow-add, mod_low, shr_high, mod-pow-add, or_shifted, or_comm, pow_below}
use Rattle.std.proofs.lemmas.List.{length_push}
use Rattle.std.specs.List.{AllByRecursion}
use Rattle.codec_payload_base.specs.Bits.{Reader, bits, bits_of, left, moved, ReadsBits, ReadsLeb128, Passes}
use Rattle.codec_payload_base.specs.Leb.{AllGoOn, leb128_value}
use Rattle.codec_payload_base.proofs.BitLemmas.{bits_of-append}

-- the bytes read so far, each with the continuation bit
pub record SoFar (old now : Reader) (count value : ℕ) : Type 0 where
  pub text : List ℕ
  pub size : length text ≡ count
  pub go_on : AllGoOn text
  pub passes : Passes text old now
  pub sum : value ≡ leb128_value text % 2 ^ 64

pub leb128_value-push : (text : List ℕ) (b : ℕ) → leb128_value (text ++ b ∷ []) ≡ leb128_value text + b % 128 * 2 ^ (7 * length text)
leb128_value-push [] b = omega arith
leb128_value-push (x ∷ xs) b =
    let more : 2 ^ (7 * suc (length xs)) ≡ 2 ^ 7 * 2 ^ (7 * length xs) = ap (λ t. 2 ^ t) (omega arith) ∙ pow-add 2 7 (7 * length xs) in
    rw (leb128_value-push xs b, more) (omega arith)

pub leb128_value_below : (text : List ℕ) → leb128_value text < 2 ^ (7 * length text)
leb128_value_below [] = lit< tt
leb128_value_below (x ∷ xs) =
    let more : 2 ^ (7 * suc (length xs)) ≡ 2 ^ 7 * 2 ^ (7 * length xs) = ap (λ t. 2 ^ t) (omega arith) ∙ pow-add 2 7 (7 * length xs) in
    omega (arith, leb128_value_below xs, more)

pub AllGoOn-push : (text : List ℕ) (b : ℕ) → AllGoOn text → 128 ≤ b → AllGoOn (text ++ b ∷ [])
AllGoOn-push [] b all h = (h, tt)
AllGoOn-push (x ∷ xs) b all h = (all.0, AllGoOn-push xs b all.1 h)

bytes_push : (text : List ℕ) (b : ℕ) → AllByRecursion (λ x. x < 256) text → b < 256 → AllByRecursion (λ x. x < 256) (text ++ b ∷ [])
bytes_push [] b all l = (l, tt)
bytes_push (x ∷ xs) b all l = (all.0, bytes_push xs b all.1 l)

wrapped_sum : (low v k : ℕ) → k ≤ 64 → v < 2 ^ k → (low * 2 ^ k + v) % 2 ^ 64 ≡ (low % 2 ^ (64 - k)) * 2 ^ k + v
wrapped_sum low v k h b =
    let width : 64 ≡ 64 - k + k = omega arith in
    ap (λ t. (low * 2 ^ k + v) % 2 ^ t) width
    ∙ mod-pow-add (low * 2 ^ k + v) (64 - k) k
    ∙ rw (shr_high low k v b, mod_low low k v b) refl

-- `|` of bits that a wrapping shift brings above the others
pub or_wrapped : (low v k : ℕ) → k ≤ 64 → v < 2 ^ k → bit_or v (low * 2 ^ k % 2 ^ 64) ≡ (low * 2 ^ k + v) % 2 ^ 64
or_wrapped low v k h b =
    ap (bit_or v) (ap (λ t. t % 2 ^ 64) (sym (add-zero (low * 2 ^ k))) ∙ wrapped_sum low 0 k h (pow_pos k) ∙ add-zero ((low % 2 ^ (64 - k)) * 2 ^ k))
    ∙ or_comm v ((low % 2 ^ (64 - k)) * 2 ^ k)
    ∙ or_shifted (low % 2 ^ (64 - k)) k v b
    ∙ sym (wrapped_sum low v k h b)

-- the number that a step computes
pub sum_more : (text : List ℕ) (b v i : ℕ) → length text ≡ i → i < 10 → v ≡ leb128_value text % 2 ^ 64 → bit_or v (b % 128 * 2 ^ (7 * i) % 2 ^ 64) ≡ leb128_value (text ++ b ∷ []) % 2 ^ 64
sum_more text b v i size few sum =
    let below : leb128_value text < 2 ^ (7 * i) = rw (sym size) (leb128_value_below text) in
    let fits : leb128_value text < 2 ^ 64 = omega (arith, below, pow_below (7 * i) 64 (omega arith)) in
    let same : v ≡ leb128_value text = sum ∙ mod-eq_of_lt fits in
    rw same (or_wrapped (b % 128) (leb128_value text) (7 * i) (omega arith) below
    ∙ ap (λ t. t % 2 ^ 64) (rw (leb128_value-push text b, size) (omega arith)))

passes_more : (text : List ℕ) (old now next : Reader) (b : ℕ) → Passes text old now → ReadsBits 8 now next (Some b) → Passes (text ++ b ∷ []) old next
passes_more text old now next b p r = record {
  bytes = bytes_push text b p.bytes r.0;
  front =
      p.front ∙ ap (λ t. bits_of text ++ t) r.1
      ∙ sym (append_assoc (bits_of text) (bits 8 b) (left next))
      ∙ ap (λ t. t ++ left next) (ap (λ t. bits_of text ++ t) (sym (append-nil (bits 8 b))) ∙ sym (bits_of-append text (b ∷ [])));
  place =
      r.2 ∙ ap (λ t. moved t 8) p.place ∙ ap (λ t. record old { place = t }) (omega (arith, length_push text b));
}

pub so_far_none : (r : Reader) → SoFar r r 0 0
so_far_none r = record {
  text = [];
  size = refl;
  go_on = tt;
  passes = record { bytes = tt; front = refl; place = ap (λ t. record r { place = t }) (sym (add-zero r.place)) };
  sum = refl;
}

pub so_far_more : (old now next : Reader) (i v b : ℕ) → i < 10 → SoFar old now i v → ReadsBits 8 now next (Some b) → 128 ≤ b → SoFar old next (i + 1) (bit_or v (b % 128 * 2 ^ (7 * i) % 2 ^ 64))
so_far_more old now next i v b few s r high = record {
  text = s.text ++ b ∷ [];
  size = omega (arith, length_push s.text b, s.size);
  go_on = AllGoOn-push s.text b s.go_on high;
  passes = passes_more s.text old now next b s.passes r;
  sum = sum_more s.text b v i s.size few s.sum;
}

pub reads_last : (old now next : Reader) (i v b : ℕ) → i < 10 → SoFar old now i v → ReadsBits 8 now next (Some b) → b < 128 → ReadsLeb128 old next (Some (bit_or v (b % 128 * 2 ^ (7 * i) % 2 ^ 64)))
reads_last old now next i v b few s r low = (
  s.text ++ b ∷ [],
  record {
    front = s.text;
    last = b;
    is = refl;
    go_on = s.go_on;
    ends = low;
    short = omega (arith, length_push s.text b, s.size);
    sum = sum_more s.text b v i s.size few s.sum;
  },
  passes_more s.text old now next b s.passes r,
)

pub reads_cut : (old now next : Reader) (i v : ℕ) → i < 10 → SoFar old now i v → ReadsBits 8 now next None → ReadsLeb128 old next None
reads_cut old now next i v few s r = (s.text, s.go_on, rw r.1 s.passes, inr (omega (arith, s.size), rw r.1 r.0))

pub reads_ten : (old now : Reader) (v : ℕ) → SoFar old now 10 v → ReadsLeb128 old now None
reads_ten old now v s = (s.text, s.go_on, s.passes, inl s.size)
