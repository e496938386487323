-- How long payloads are.
use Rattle.std.proofs.Common.{◌≡◌, ℕ, zero, suc, ◌+◌, ◌/◌, ◌≤◌, Bool, true, false, cond, ltb, eqb, List, [], ◌∷◌, length, take, drop, map, Option, Some, None, refl, ap, ◌⊎◌, inl, inr, arith}
use Rattle.std.specs.Prelude.{◌||◌, ◌&&◌}
use Rattle.std.proofs.lemmas.List.{length-append, length-map, length-take, length-drop}
use Rattle.std.proofs.lemmas.Bool.{cases_lt, lt-ltb, le-ltb, ltb-false}
use Rattle.codec_payload_base.specs.Leb.{leb, leb_at, leb_within}
use Rattle.codec_payload_base.proofs.LebLaws.{leb_sound, writes_shortest}
use Rattle.codec_payload_av1.specs.Av1Reading.{◌>>=◌}
use Rattle.codec_payload_av1.specs.Av1Obu.{has_bit}
use Rattle.codec_payload_av1.specs.Av1Payload.{Payload, written, body, each_with_length, all_but_last_with_length, payload_at, element_at, each_at, counted_at, elements_at}
use Rattle.codec_payload_av1.specs.Av1Size.{size_with_lengths, size_last_bare, packet_size, leb_len}
use Rattle.codec_payload_av1.proofs.Av1FewestSegments.{bare-le-lengths, Rises}
use Rattle.std.specs.Prelude.{bit_and}
use Rattle.std.proofs.lemmas.Nat.{and_le_r}

-- ---- steps that answered

pub bind_some : {A B : Type 0} (r : Option A) (f : A → Option B) (y : B) → (r >>= f) ≡ Some y → (x : A) × (r ≡ Some x) × (f x ≡ Some y)
bind_some (Some x) f y e = (x, refl, e)
bind_some None f y e = absurd cc

pub chosen : {A : Type 0} (b : Bool) (x y z : A) → cond b x y ≡ z → ((b ≡ true) × (x ≡ z)) ⊎ ((b ≡ false) × (y ≡ z))
chosen true x y z e = inl (refl, e)
chosen false x y z e = inr (refl, e)

pub some_is : {A : Type 0} (x y : A) → Some x ≡ Some y → x ≡ y
some_is x y e = cc

-- ---- lengths of numbers

within_rises : (k a b : ℕ) → a ≤ b → length (leb_within k a) ≤ length (leb_within k b)
within_rises zero a b le = omega arith
within_rises (suc k) a b le =
    elim (cases_lt a 128) [
      | inl small ↦ elim (cases_lt b 128) [
        | inl less ↦ rw (lt-ltb a 128 small, lt-ltb b 128 less) (omega arith)
        | inr more ↦ rw (lt-ltb a 128 small, le-ltb b 128 more) (omega arith)
      ]
      | inr large ↦ rw (le-ltb a 128 large, le-ltb b 128 (omega arith)) (omega (arith, within_rises k (a / 128) (b / 128) (omega arith)))
    ]

pub leb_len_rises : Rises leb_len
unfolding leb
leb_len_rises a b le = within_rises 9 a b le

within_some : (k n : ℕ) → 1 ≤ length (leb_within k n)
within_some zero n = omega arith
within_some (suc k) n =
    elim (cases_lt n 128) [
      | inl small ↦ rw (lt-ltb n 128 small) (omega arith)
      | inr large ↦ rw (le-ltb n 128 large) (omega arith)
    ]

pub leb_len_some : (n : ℕ) → 1 ≤ leb_len n
unfolding leb
leb_len_some n = within_some 9 n

within_most : (k n : ℕ) → length (leb_within k n) ≤ k + 1
within_most zero n = omega arith
within_most (suc k) n =
    elim (cases_lt n 128) [
      | inl small ↦ rw (lt-ltb n 128 small) (omega arith)
      | inr large ↦ rw (le-ltb n 128 large) (omega (arith, within_most k (n / 128)))
    ]

pub leb_len_most : (n : ℕ) → leb_len n ≤ 10
unfolding leb
leb_len_most n = within_most 9 n

-- ---- lengths of written bytes

length_each : (es : List (List ℕ)) → length (each_with_length es) ≡ size_with_lengths leb_len (map length es)
length_each [] = refl
length_each (e ∷ es) = simp length-append (omega (arith, length_each es))

length_all_but_last : (es : List (List ℕ)) → length (all_but_last_with_length es) ≡ size_last_bare leb_len (map length es)
length_all_but_last [] = refl
length_all_but_last (e ∷ []) = refl
length_all_but_last (e ∷ f ∷ es) = simp length-append (omega (arith, length_all_but_last (f ∷ es)))

length_body : (es : List (List ℕ)) → 1 + length (body es) ≡ packet_size leb_len (map length es)
length_body es =
    elim (cases_lt 3 (length es)) [
      | inl more ↦ rw (lt-ltb 3 (length es) more, length-map es (length {A = ℕ}), lt-ltb 3 (length es) more) (ap (λ n. 1 + n) (length_each es))
      | inr few ↦ rw (le-ltb 3 (length es) few, length-map es (length {A = ℕ}), le-ltb 3 (length es) few) (ap (λ n. 1 + n) (length_all_but_last es))
    ]

pub length_written : (p : Payload) → length (written p) ≡ packet_size leb_len (map length p.elements)
unfolding written
length_written p = omega (arith, length_body p.elements)

-- ---- nothing that is read is shorter

leb_at_len : (bytes : List ℕ) (x : ℕ × List ℕ) → leb_at bytes ≡ Some x → leb_len x.0 + length x.1 ≤ length bytes
leb_at_len bytes x e =
    let s = leb_sound bytes x.0 x.1 e in
    omega (arith, writes_shortest x.0 s.0 s.1, ap length s.2, length-append s.0 x.1)

pub or_false : (a b : Bool) → (a || b) ≡ false → b ≡ false
or_false true b e = absurd cc
or_false false b e = e

bare_cons : (e : ℕ) (es : List ℕ) → size_last_bare leb_len (e ∷ es) ≤ leb_len e + e + size_last_bare leb_len es
bare_cons e [] = omega arith
bare_cons e (f ∷ es) = omega arith

pub element_at_len : (bytes : List ℕ) (x : List ℕ × List ℕ) → element_at bytes ≡ Some x → leb_len (length x.0) + length x.0 + length x.1 ≤ length bytes
unfolding element_at
element_at_len bytes x e =
    let n = bind_some (leb_at bytes) (λ n. cond (eqb n.0 0 || ltb (length n.1) n.0) None (Some (take n.0 n.1, drop n.0 n.1))) x e in
    elim (chosen (eqb n.0.0 0 || ltb (length n.0.1) n.0.0) None (Some (take n.0.0 n.0.1, drop n.0.0 n.0.1)) (Some x) n.2) [
      | inl p ↦ absurd (let no = p.1 in cc)
      | inr q ↦
          let less = leb_at_len bytes n.0 n.1 in
          let long : n.0.0 ≤ length n.0.1 = ltb-false _ _ (or_false (eqb n.0.0 0) (ltb (length n.0.1) n.0.0) q.0) in
          let len : length (take n.0.0 n.0.1) ≡ n.0.0 = omega (arith, length-take n.0.0 n.0.1) in
          rw (← some_is (take n.0.0 n.0.1, drop n.0.0 n.0.1) x q.1, len) (omega (arith, less, length-drop n.0.0 n.0.1))
    ]

each_at_len : (k : ℕ) (bytes : List ℕ) (es : List (List ℕ)) → each_at k bytes ≡ Some es → size_with_lengths leb_len (map length es) ≤ length bytes
unfolding each_at
each_at_len k [] es e = rw (← some_is [] es e) (omega arith)
each_at_len zero (b ∷ bytes) es e = absurd cc
each_at_len (suc k) (b ∷ bytes) es e =
    let x = bind_some (element_at (b ∷ bytes)) (λ x. each_at k x.1 >>= λ ys. Some (x.0 ∷ ys)) es e in
    let ys = bind_some (each_at k x.0.1) (λ ys. Some (x.0.0 ∷ ys)) es x.2 in
    rw (← some_is (x.0.0 ∷ ys.0) es ys.2) (omega (arith, element_at_len (b ∷ bytes) x.0 x.1, each_at_len k x.0.1 ys.0 ys.1))

counted_at_len : (k : ℕ) (bytes : List ℕ) (es : List (List ℕ)) → counted_at k bytes ≡ Some es → (size_last_bare leb_len (map length es) ≤ length bytes) × (length es ≤ k + 1)
unfolding counted_at
counted_at_len k [] es e = rw (← some_is [] es e) (omega arith, omega arith)
counted_at_len zero (b ∷ bytes) es e = rw (← some_is ((b ∷ bytes) ∷ []) es e) (omega arith, omega arith)
counted_at_len (suc k) (b ∷ bytes) es e =
    let x = bind_some (element_at (b ∷ bytes)) (λ x. counted_at k x.1 >>= λ ys. Some (x.0 ∷ ys)) es e in
    let ys = bind_some (counted_at k x.0.1) (λ ys. Some (x.0.0 ∷ ys)) es x.2 in
    let r = counted_at_len k x.0.1 ys.0 ys.1 in
    rw (← some_is (x.0.0 ∷ ys.0) es ys.2) (omega (arith, element_at_len (b ∷ bytes) x.0 x.1, bare_cons (length x.0.0) (map length ys.0), r.0), omega (arith, r.1))

elements_size : (w : ℕ) → w ≤ 3 → (bytes : List ℕ) (es : List (List ℕ)) → elements_at w bytes ≡ Some es → packet_size leb_len (map length es) ≤ suc (length bytes)
elements_size zero le bytes es e =
    let less = each_at_len (length bytes) bytes es e in
    elim (cases_lt 3 (length es)) [
      | inl more ↦ rw (length-map es (length {A = ℕ}), lt-ltb 3 (length es) more) (omega (arith, less))
      | inr few ↦ rw (length-map es (length {A = ℕ}), le-ltb 3 (length es) few) (omega (arith, less, bare-le-lengths leb_len (map length es)))
    ]
elements_size (suc w) le bytes es e =
    let less = counted_at_len w bytes es e in
    rw (length-map es (length {A = ℕ}), le-ltb 3 (length es) (omega (arith, less.1))) (omega (arith, less.0))

mask_two : (h : ℕ) → bit_and h 0x30 / 16 ≤ 3
mask_two h = omega (arith, and_le_r h 48)

-- the shortest bytes of a payload are at most as long as the bytes that it was read from
pub payload_at_len : (bytes : List ℕ) (p : Payload) → payload_at bytes ≡ Some p → packet_size leb_len (map length p.elements) ≤ length bytes
unfolding payload_at
payload_at_len [] p e = absurd cc
payload_at_len (h ∷ bytes) p e =
    let w = bit_and h 0x30 / 16 in
    let es = bind_some (elements_at w bytes) (λ es. Some (record { continues = has_bit 128 h; goes_on = has_bit 64 h && (eqb w 0 || eqb (length es) w); starts = has_bit 8 h; elements = es })) p e in
    let is : es.0 ≡ p.elements = ap (λ (q : Payload). q.elements) (some_is _ p es.2) in
    rw (← is) (elements_size w (mask_two h) bytes es.0 es.1)
