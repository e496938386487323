-- A unit of frames is a set of frames and a set of references.
use Rattle.std.proofs.Common.{◌≡◌, ◌∙◌, refl, sym, ap, subst, ℕ, zero, suc, ◌+◌, ◌-◌, ◌*◌, ◌^◌, ◌%◌, ◌/◌, ◌<◌, ◌≤◌, ◌&&◌, ◌⊎◌, inl, inr, max, min, List, [], ◌∷◌, Bool, true, false, cond, eqb, ltb, arith, Option, Some, None}
use Rattle.std.specs.Prelude.{◌↔◌, not}
use Rattle.std.specs.Int.{bit_at}
use Rattle.std.specs.Int.Width.{w128}
use Rattle.std.specs.Int.Bits.{bit_and, bit_or}
use Rattle.std.proofs.lemmas.Bool.{and_from, eq-eqb, eqb-true, false≢true, lt-ltb, ltb-true, ltb-false}
use Rattle.std.proofs.lemmas.Nat.{and_le_r, pow_pos, shr-shr}
use Rattle.std.proofs.lemmas.Nat.Bits.{bit_at-lt, bit_at-zero, bit_at-pow_same, bit_at-pow_other, bit_at_above, bit_at_and, bit_at_cat_high, bit_at_cat_low, bit_at_not, bit_at_or, same_from_bits}
use Rattle.codec_payload_descriptor.specs.declared.dependency.DependencyDescriptor.{DependencyDescriptor}
use Rattle.codec_payload_keyframes.specs.declared.references.Referring.{Referring}
use Rattle.codec_payload_references.specs.Frames.{Frame, bit_for, bit_of, first_frame, further_on, is_of_base, is_within, known, mask_of, moved_on, with_frame, with_frames, with_next}
use Rattle.codec_payload_references.specs.Sets.{ArePositive, HasFrame, HasNumber, IsLatest, IsUnitOf, NumbersRise, ReferBack, RefersOut, RefersTo, UnitsAreSets, latest_first}

both : (a b : Bool) → (a && b) ≡ true → (a ≡ true) × (b ≡ true)
both true true e = (refl, refl)
both true false e = let no : ⊥ = cc in absurd no
both false b e = let no : ⊥ = cc in absurd no

-- ---- bits

low_bits : (x i : ℕ) → i < 128 → bit_at (x % 2 ^ 128) i ≡ bit_at x i
low_bits x i low = sym (subst (λ (y : ℕ). bit_at y i ≡ bit_at (x % 2 ^ 128) i) (omega arith) (bit_at_cat_low (x / 2 ^ 128) 128 (x % 2 ^ 128) i low))

moved_low : (x gap i : ℕ) → i < gap → i < 128 → bit_at (moved_on x gap) i ≡ 0
moved_low x gap i below low = by (ltb gap 128) refl
  where
    by : (b : Bool) → ltb gap 128 ≡ b → bit_at (cond b (x * 2 ^ gap % 2 ^ 128) 0) i ≡ 0
    by true e = low_bits (x * 2 ^ gap) i low ∙ subst (λ (y : ℕ). bit_at y i ≡ 0) (omega arith) (bit_at_cat_low x gap 0 i below ∙ bit_at-zero i)
    by false e = bit_at-zero i

moved_high : (x gap i : ℕ) → gap ≤ i → i < 128 → bit_at (moved_on x gap) i ≡ bit_at x (i - gap)
moved_high x gap i above low =
    rw (lt-ltb gap 128 (omega (arith, above, low)))
    (low_bits (x * 2 ^ gap) i low ∙ subst (λ (y : ℕ). bit_at y i ≡ bit_at x (i - gap)) (omega arith) (bit_at_cat_high x gap 0 i (pow_pos gap) above))

moved_fits : (x gap : ℕ) → moved_on x gap < 2 ^ 128
moved_fits x gap = by (ltb gap 128)
  where
    by : (b : Bool) → cond b (x * 2 ^ gap % 2 ^ 128) 0 < 2 ^ 128
    by true = omega arith
    by false = omega arith

bit_is : (x i : ℕ) → (bit_at x i ≡ 0) ⊎ (bit_at x i ≡ 1)
bit_is x i = by (bit_at x i) (bit_at-lt x i)
  where
    by : (n : ℕ) → n < 2 → (n ≡ 0) ⊎ (n ≡ 1)
    by zero low = inl refl
    by (suc zero) low = inr refl
    by (suc (suc n)) low = absurd (omega (arith, low))

one_at : (d : ℕ) → 0 < d → bit_at 1 d ≡ 0
one_at d up = bit_at-pow_other 0 d (λ z. omega (arith, z, up))

bit_of_at : (b : Bool) (d : ℕ) → 0 < d → bit_at (bit_of b) d ≡ 0
bit_of_at true d up = one_at d up
bit_of_at false d up = bit_at-zero d

bit_of_zero : (b : Bool) → bit_at (bit_of b) 0 ≡ bit_of b
bit_of_zero true = bit_at-pow_same 0
bit_of_zero false = bit_at-zero 0

bit_of_low : (b : Bool) → bit_of b < 2
bit_of_low true = omega arith
bit_of_low false = omega arith

known_fits : (x : ℕ) → known x < 2 ^ 128
known_fits x = omega (arith, and_le_r x (2 ^ 128 - 1 - 1))

known_zero : (x : ℕ) → bit_at (known x) 0 ≡ 0
known_zero x = bit_at_and x (2 ^ 128 - 1 - 1) 0 ∙ omega (arith, bit_at_not w128 1 0 (omega arith) (omega arith), bit_at-pow_same 0)

known_at : (x d : ℕ) → 0 < d → d < 128 → bit_at (known x) d ≡ bit_at x d
known_at x d up low = bit_at_and x (2 ^ 128 - 1 - 1) d ∙ omega (arith, bit_at_not w128 1 d (omega arith) low, one_at d up, bit_at-lt x d)

-- ---- bits that are lost

pub record Lost (x gap k : ℕ) : Type 0 where
  pub place : ℕ
  pub low : place < k
  pub is : bit_at x place ≡ 1
  pub out : 128 ≤ place + gap

lost_or : (x gap k : ℕ) → Lost x gap k ⊎ ((e : ℕ) → e < k → 128 ≤ e + gap → bit_at x e ≡ 0)
lost_or x gap zero = inr (λ e low out. absurd (omega (arith, low)))
lost_or x gap (suc k) = by (lost_or x gap k) (bit_is x k) (ltb (k + gap) 128) refl
  where
    by : (Lost x gap k ⊎ ((e : ℕ) → e < k → 128 ≤ e + gap → bit_at x e ≡ 0)) → ((bit_at x k ≡ 0) ⊎ (bit_at x k ≡ 1)) → (b : Bool) → ltb (k + gap) 128 ≡ b
        → Lost x gap (suc k) ⊎ ((e : ℕ) → e < suc k → 128 ≤ e + gap → bit_at x e ≡ 0)
    by (inl lost) bit b t = inl (record { place = lost.place; low = omega (arith, lost.low); is = lost.is; out = lost.out })
    by (inr none) (inr is) false t = inl (record { place = k; low = omega arith; is = is; out = omega (arith, ltb-false (k + gap) 128 t) })
    by (inr none) (inr is) true t = inr (λ e low out. none e (omega (arith, low, out, ltb-true (k + gap) 128 t)) out)
    by (inr none) (inl is) b t = inr (λ e low out. at e low out (ltb e k) refl)
      where
        at : (e : ℕ) → e < suc k → 128 ≤ e + gap → (c : Bool) → ltb e k ≡ c → bit_at x e ≡ 0
        at e low out true s = none e (ltb-true e k s) out
        at e low out false s = subst (λ (i : ℕ). bit_at x i ≡ 0) (omega (arith, low, ltb-false e k s)) is

shifted : (y k i : ℕ) → bit_at (y / 2 ^ k) i ≡ bit_at y (k + i)
shifted y k i = ap (λ (z : ℕ). z % 2) (shr-shr y k i)

moved_back : (x gap i : ℕ) → gap + i < 128 → bit_at (moved_on x gap / 2 ^ gap) i ≡ bit_at x i
moved_back x gap i low = shifted (moved_on x gap) gap i ∙ moved_high x gap (gap + i) (omega arith) low ∙ ap (bit_at x) (omega arith)

moved_out : (x gap i : ℕ) → 128 ≤ gap + i → bit_at (moved_on x gap / 2 ^ gap) i ≡ 0
moved_out x gap i out = shifted (moved_on x gap) gap i ∙ bit_at_above (moved_on x gap) 128 (gap + i) (moved_fits x gap) out

within : (x gap : ℕ) → x < 2 ^ 128 → ((e : ℕ) → e < 128 → 128 ≤ e + gap → bit_at x e ≡ 0) → is_within x gap ≡ true
within x gap fits none = by (ltb gap 128) refl
  where
    at : (i : ℕ) → (b c : Bool) → ltb (gap + i) 128 ≡ b → ltb i 128 ≡ c → bit_at (moved_on x gap / 2 ^ gap) i ≡ bit_at x i
    at i true c t s = moved_back x gap i (ltb-true (gap + i) 128 t)
    at i false true t s = moved_out x gap i (ltb-false (gap + i) 128 t) ∙ sym (none i (ltb-true i 128 s) (omega (arith, ltb-false (gap + i) 128 t)))
    at i false false t s = moved_out x gap i (ltb-false (gap + i) 128 t) ∙ sym (bit_at_above x 128 i fits (ltb-false i 128 s))

    none_at : 128 ≤ gap → (i : ℕ) → (c : Bool) → ltb i 128 ≡ c → bit_at x i ≡ bit_at 0 i
    none_at wide i true s = none i (ltb-true i 128 s) (omega (arith, wide)) ∙ sym (bit_at-zero i)
    none_at wide i false s = bit_at_above x 128 i fits (ltb-false i 128 s) ∙ sym (bit_at-zero i)

    by : (b : Bool) → ltb gap 128 ≡ b → cond b (eqb (moved_on x gap / 2 ^ gap) x) (eqb x 0) ≡ true
    by true t = eq-eqb (moved_on x gap / 2 ^ gap) x (same_from_bits (moved_on x gap / 2 ^ gap) x (λ i. at i (ltb (gap + i) 128) (ltb i 128) refl refl))
    by false t = eq-eqb x 0 (same_from_bits x 0 (λ i. none_at (ltb-false gap 128 t) i (ltb i 128) refl))

not_within : (x gap : ℕ) → Lost x gap 128 → is_within x gap ≡ false
not_within x gap lost = by (ltb gap 128)
  where
    moved_differs : (b : Bool) → eqb (moved_on x gap / 2 ^ gap) x ≡ b → b ≡ false
    moved_differs false e = refl
    moved_differs true e = absurd (omega (arith, lost.is, moved_out x gap lost.place (omega (arith, lost.out)), ap (λ (y : ℕ). bit_at y lost.place) (eqb-true (moved_on x gap / 2 ^ gap) x e)))

    zero_differs : (b : Bool) → eqb x 0 ≡ b → b ≡ false
    zero_differs false e = refl
    zero_differs true e = absurd (omega (arith, lost.is, bit_at-zero lost.place, ap (λ (y : ℕ). bit_at y lost.place) (eqb-true x 0 e)))

    by : (b : Bool) → cond b (eqb (moved_on x gap / 2 ^ gap) x) (eqb x 0) ≡ false
    by true = moved_differs (eqb (moved_on x gap / 2 ^ gap) x) refl
    by false = zero_differs (eqb x 0) refl

-- ---- distances from a later frame

further_at : (x gap d : ℕ) → 0 < d → bit_at (further_on x gap) d ≡ bit_at (moved_on (known x) gap) d
further_at x gap d up =
    bit_at_or (bit_or (moved_on (known x) gap) (bit_and x 1)) (bit_of (not (is_within (known x) gap))) d
    ∙ omega (arith, bit_at_or (moved_on (known x) gap) (bit_and x 1) d, bit_at_and x 1 d, one_at d up, bit_of_at (not (is_within (known x) gap)) d up)

further_zero : (x gap : ℕ) → 0 < gap → bit_at (further_on x gap) 0 ≡ max (bit_at x 0) (bit_of (not (is_within (known x) gap)))
further_zero x gap up =
    bit_at_or (bit_or (moved_on (known x) gap) (bit_and x 1)) (bit_of (not (is_within (known x) gap))) 0
    ∙ omega (arith, bit_at_or (moved_on (known x) gap) (bit_and x 1) 0, bit_at_and x 1 0, bit_at-pow_same 0, bit_at-lt x 0, moved_low (known x) gap 0 up (omega arith), bit_of_zero (not (is_within (known x) gap)))

-- ---- masks

bit_for_at : (r d : ℕ) → 0 < r → 0 < d → d < 128 → (bit_at (bit_for r) d ≡ 1) ↔ (d ≡ r)
bit_for_at r d some up low = by (ltb r 128) refl
  where
    other : (b : Bool) → eqb d r ≡ b → bit_at (2 ^ r) d ≡ 1 → d ≡ r
    other true e is = eqb-true d r e
    other false e is = absurd (omega (arith, is, bit_at-pow_other r d (λ z. false≢true (sym e ∙ eq-eqb d r z))))

    by : (b : Bool) → ltb r 128 ≡ b → (bit_at (cond b (2 ^ r) 1) d ≡ 1) ↔ (d ≡ r)
    by true t = (λ is. other (eqb d r) refl is, λ e. rw e (bit_at-pow_same r))
    by false t = (λ is. absurd (omega (arith, is, one_at d up)), λ e. absurd (omega (arith, e, low, ltb-false r 128 t)))

bit_for_zero : (r : ℕ) → 0 < r → (bit_at (bit_for r) 0 ≡ 1) ↔ (128 ≤ r)
bit_for_zero r some = by (ltb r 128) refl
  where
    by : (b : Bool) → ltb r 128 ≡ b → (bit_at (cond b (2 ^ r) 1) 0 ≡ 1) ↔ (128 ≤ r)
    by true t = (λ is. absurd (omega (arith, is, bit_at-pow_other r 0 (λ z. omega (arith, z, some)))), λ le. absurd (omega (arith, le, ltb-true r 128 t)))
    by false t = (λ is. ltb-false r 128 t, λ le. bit_at-pow_same 0)

or_one : (x y d : ℕ) → bit_at (bit_or x y) d ≡ 1 → (bit_at x d ≡ 1) ⊎ (bit_at y d ≡ 1)
or_one x y d is = by (bit_is x d)
  where
    by : ((bit_at x d ≡ 0) ⊎ (bit_at x d ≡ 1)) → (bit_at x d ≡ 1) ⊎ (bit_at y d ≡ 1)
    by (inl clear) = inr (omega (arith, is, clear, bit_at_or x y d))
    by (inr so) = inl so

one_or : (x y d : ℕ) → ((bit_at x d ≡ 1) ⊎ (bit_at y d ≡ 1)) → bit_at (bit_or x y) d ≡ 1
one_or x y d (inl is) = bit_at_or x y d ∙ omega (arith, is, bit_at-lt y d)
one_or x y d (inr is) = bit_at_or x y d ∙ omega (arith, is, bit_at-lt x d)

mask_there : (m d : ℕ) (rs : List ℕ) → ArePositive rs → 0 < d → d < 128 → bit_at (mask_of m rs) d ≡ 1 → (bit_at m d ≡ 1) ⊎ HasNumber d rs
mask_there m d [] p up low is = inl is
mask_there m d (r ∷ rs) p up low is = by (mask_there (bit_or m (bit_for r)) d rs p.1 up low is)
  where
    by : ((bit_at (bit_or m (bit_for r)) d ≡ 1) ⊎ HasNumber d rs) → (bit_at m d ≡ 1) ⊎ HasNumber d (r ∷ rs)
    by (inr has) = inr (inr has)
    by (inl so) = first (or_one m (bit_for r) d so)
      where
        first : ((bit_at m d ≡ 1) ⊎ (bit_at (bit_for r) d ≡ 1)) → (bit_at m d ≡ 1) ⊎ HasNumber d (r ∷ rs)
        first (inl old) = inl old
        first (inr new) = inr (inl ((bit_for_at r d p.0 up low).0 new))

mask_keeps : (m d : ℕ) (rs : List ℕ) → bit_at m d ≡ 1 → bit_at (mask_of m rs) d ≡ 1
mask_keeps m d [] is = is
mask_keeps m d (r ∷ rs) is = mask_keeps (bit_or m (bit_for r)) d rs (one_or m (bit_for r) d (inl is))

mask_back : (m d : ℕ) (rs : List ℕ) → ArePositive rs → 0 < d → d < 128 → HasNumber d rs → bit_at (mask_of m rs) d ≡ 1
mask_back m d [] p up low has = absurd has
mask_back m d (r ∷ rs) p up low (inl e) = mask_keeps (bit_or m (bit_for r)) d rs (one_or m (bit_for r) d (inr ((bit_for_at r d p.0 up low).1 e)))
mask_back m d (r ∷ rs) p up low (inr has) = mask_back (bit_or m (bit_for r)) d rs p.1 up low has

mask_far : (m d : ℕ) (rs : List ℕ) → ArePositive rs → 128 ≤ d → HasNumber d rs → bit_at (mask_of m rs) 0 ≡ 1
mask_far m d [] p out has = absurd has
mask_far m d (r ∷ rs) p out (inl e) = mask_keeps (bit_or m (bit_for r)) 0 rs (one_or m (bit_for r) 0 (inr ((bit_for_zero r p.0).1 (omega (arith, out, e)))))
mask_far m d (r ∷ rs) p out (inr has) = mask_far (bit_or m (bit_for r)) d rs p.1 out has

pub record Far (rs : List ℕ) : Type 0 where
  pub reference : ℕ
  pub out : 128 ≤ reference
  pub has : HasNumber reference rs

mask_zero : (m : ℕ) (rs : List ℕ) → ArePositive rs → bit_at (mask_of m rs) 0 ≡ 1 → (bit_at m 0 ≡ 1) ⊎ Far rs
mask_zero m [] p is = inl is
mask_zero m (r ∷ rs) p is = by (mask_zero (bit_or m (bit_for r)) rs p.1 is)
  where
    by : ((bit_at (bit_or m (bit_for r)) 0 ≡ 1) ⊎ Far rs) → (bit_at m 0 ≡ 1) ⊎ Far (r ∷ rs)
    by (inr far) = inr (record { reference = far.reference; out = far.out; has = inr far.has })
    by (inl so) = first (or_one m (bit_for r) 0 so)
      where
        first : ((bit_at m 0 ≡ 1) ⊎ (bit_at (bit_for r) 0 ≡ 1)) → (bit_at m 0 ≡ 1) ⊎ Far (r ∷ rs)
        first (inl old) = inl old
        first (inr new) = inr (record { reference = r; out = (bit_for_zero r p.0).0 new; has = inl refl })

-- ---- one frame

positive_number : (d : ℕ) (rs : List ℕ) → ArePositive rs → HasNumber d rs → 0 < d
positive_number d [] p has = absurd has
positive_number d (r ∷ rs) p (inl e) = omega (arith, p.0, e)
positive_number d (r ∷ rs) p (inr has) = positive_number d rs p.1 has

same_number : (d e : ℕ) (rs : List ℕ) → d ≡ e → HasNumber d rs → HasNumber e rs
same_number d e rs is has = subst (λ (n : ℕ). HasNumber n rs) is has

-- ---- several frames

has_low : (n d m : ℕ) (ls : List Frame) → IsLatest m ls → NumbersRise ls → HasFrame n d ls → n ≤ m + d
has_low n d m [] latest rise has = absurd has
has_low n d m (h ∷ hs) latest rise (inl is) = omega (arith, is, latest)
has_low n d m (h ∷ []) latest rise (inr has) = absurd has
has_low n d m (h ∷ g ∷ gs) latest rise (inr has) = omega (arith, has_low n d g.number (g ∷ gs) refl rise.1 has, rise.0, latest)

refers_low : (n d m : ℕ) (ls : List Frame) → IsLatest m ls → NumbersRise ls → ReferBack ls → RefersTo n d ls → n < m + d
refers_low n d m [] latest rise back refers = absurd refers
refers_low n d m (h ∷ hs) latest rise back (inl (r, has, is)) = omega (arith, is, latest, positive_number r h.descriptor.references back.0 has)
refers_low n d m (h ∷ []) latest rise back (inr refers) = absurd refers
refers_low n d m (h ∷ g ∷ gs) latest rise back (inr refers) = omega (arith, refers_low n d g.number (g ∷ gs) refl rise.1 back.1 refers, rise.0, latest)

moved_frame : (n d m e : ℕ) (ls : List Frame) → n + e ≡ m + d → HasFrame n d ls → HasFrame m e ls
moved_frame n d m e [] same has = absurd has
moved_frame n d m e (h ∷ hs) same (inl is) = inl (omega (arith, is, same))
moved_frame n d m e (h ∷ hs) same (inr has) = inr (moved_frame n d m e hs same has)

moved_refers : (n d m e : ℕ) (ls : List Frame) → n + e ≡ m + d → RefersTo n d ls → RefersTo m e ls
moved_refers n d m e [] same refers = absurd refers
moved_refers n d m e (h ∷ hs) same (inl (r, has, is)) = inl (r, has, omega (arith, is, same))
moved_refers n d m e (h ∷ hs) same (inr refers) = inr (moved_refers n d m e hs same refers)

-- ---- a unit of one frame

base_is : (d : DependencyDescriptor) → (is_of_base d ≡ true) ↔ (d.layer.temporal_id ≡ 0)
base_is d = (λ e. eqb-true d.layer.temporal_id 0 e, λ e. eq-eqb d.layer.temporal_id 0 e)

first_is : (f : Frame) → ArePositive f.descriptor.references → IsUnitOf (f ∷ []) (first_frame f.number f.descriptor)
first_is f p = record { latest = refl; frames = λ d low. frames_of d; distances = λ d up low. (there d up low, back d up low); far = far_of; only_far = λ is. only (mask_zero 0 rs p is); base = (λ e. ((base_is f.descriptor).0 e, tt), λ e. (base_is f.descriptor).1 e.0) }
  where
    rs : List ℕ
    rs = f.descriptor.references

    frames_of : (d : ℕ) → (bit_at 1 d ≡ 1) ↔ HasFrame f.number d (f ∷ [])
    frames_of zero = (λ e. inl (omega arith), λ e. bit_at-pow_same 0)
    frames_of (suc d) = (λ e. absurd (omega (arith, e, one_at (suc d) (omega arith))), none)
      where
        none : HasFrame f.number (suc d) (f ∷ []) → bit_at 1 (suc d) ≡ 1
        none (inl e) = absurd (omega (arith, e))
        none (inr e) = absurd e

    not_own : (d : ℕ) → 0 < d → HasFrame f.number d (f ∷ []) → ⊥
    not_own d up (inl e) = omega (arith, e, up)
    not_own d up (inr e) = e

    there : (d : ℕ) → 0 < d → d < 128 → bit_at (mask_of 0 rs) d ≡ 1 → RefersOut f.number d (f ∷ [])
    there d up low is = by (mask_there 0 d rs p up low is)
      where
        by : ((bit_at 0 d ≡ 1) ⊎ HasNumber d rs) → RefersOut f.number d (f ∷ [])
        by (inl e) = absurd (omega (arith, e, bit_at-zero d))
        by (inr has) = (inl (d, has, refl), not_own d up)

    back : (d : ℕ) → 0 < d → d < 128 → RefersOut f.number d (f ∷ []) → bit_at (mask_of 0 rs) d ≡ 1
    back d up low (inl (r, has, e), out) = mask_back 0 d rs p up low (same_number r d rs (omega (arith, e)) has)
    back d up low (inr e, out) = absurd e

    far_of : (d : ℕ) → 128 ≤ d → RefersOut f.number d (f ∷ []) → bit_at (mask_of 0 rs) 0 ≡ 1
    far_of d far (inl (r, has, e), out) = mask_far 0 d rs p far (same_number r d rs (omega (arith, e)) has)
    far_of d far (inr e, out) = absurd e

    only : ((bit_at 0 0 ≡ 1) ⊎ Far rs) → (d : ℕ) × (128 ≤ d) × RefersTo f.number d (f ∷ [])
    only (inl e) = absurd (omega (arith, e, bit_at-zero 0))
    only (inr far) = (far.reference, far.out, inl (far.reference, far.has, refl))

-- ---- a unit with one more frame

abbrev pub grown : Referring → Frame → Referring
grown v f = record {
  number = f.number;
  frames = bit_or (moved_on v.frames (f.number - v.number)) 1;
  distances = bit_or (further_on v.distances (f.number - v.number)) (bit_and (mask_of 0 f.descriptor.references) (2 ^ 128 - 1 - moved_on v.frames (f.number - v.number)));
  is_base = v.is_base && is_of_base f.descriptor;
}

grown_is : (v : Referring) (f : Frame) → v.number < f.number → with_next v f.number f.descriptor ≡ grown v f
grown_is v f up = rw (lt-ltb v.number f.number up) refl

-- what is known of a unit, and of the frame after it
pub record Grows (ls : List Frame) (v : Referring) (f : Frame) : Type 0 where
  pub up : v.number < f.number
  pub rise : NumbersRise ls
  pub back : ReferBack ls
  pub positive : ArePositive f.descriptor.references
  pub unit : IsUnitOf ls v

own_is : (ls : List Frame) (v : Referring) (f : Frame) → Grows ls v f → (d : ℕ) → d < 128 → (bit_at (moved_on v.frames (f.number - v.number)) d ≡ 1) ↔ HasFrame f.number d ls
own_is ls v f g d low = by (ltb d (f.number - v.number)) refl
  where
    by : (b : Bool) → ltb d (f.number - v.number) ≡ b → (bit_at (moved_on v.frames (f.number - v.number)) d ≡ 1) ↔ HasFrame f.number d ls
    by true e = (
      λ is. absurd (omega (arith, is, moved_low v.frames (f.number - v.number) d (ltb-true d (f.number - v.number) e) low)),
      λ has. absurd (omega (arith, has_low f.number d v.number ls g.unit.latest g.rise has, ltb-true d (f.number - v.number) e)),
    )
    by false e =
        let same = moved_high v.frames (f.number - v.number) d (ltb-false d (f.number - v.number) e) low in
        let known_there = g.unit.frames (d - (f.number - v.number)) (omega (arith, low)) in (
          λ is. moved_frame v.number (d - (f.number - v.number)) f.number d ls (omega (arith, ltb-false d (f.number - v.number) e, g.up)) (known_there.0 (sym same ∙ is)),
          λ has. same ∙ known_there.1 (moved_frame f.number d v.number (d - (f.number - v.number)) ls (omega (arith, ltb-false d (f.number - v.number) e, g.up)) has),
        )

-- a new reference to a frame that is not of the unit
new_is : (ls : List Frame) (v : Referring) (f : Frame) → Grows ls v f → (d : ℕ) → d < 128
    → bit_at (bit_and (mask_of 0 f.descriptor.references) (2 ^ 128 - 1 - moved_on v.frames (f.number - v.number))) d
    ≡ min (bit_at (mask_of 0 f.descriptor.references) d) (1 - bit_at (moved_on v.frames (f.number - v.number)) d)
new_is ls v f g d low =
    bit_at_and (mask_of 0 f.descriptor.references) (2 ^ 128 - 1 - moved_on v.frames (f.number - v.number)) d
    ∙ ap (min (bit_at (mask_of 0 f.descriptor.references) d)) (bit_at_not w128 (moved_on v.frames (f.number - v.number)) d (moved_fits v.frames (f.number - v.number)) low)

-- an earlier reference, at a distance of 1 to 127 from the new frame
old_is : (ls : List Frame) (v : Referring) (f : Frame) → Grows ls v f → (d : ℕ) → 0 < d → d < 128 → (bit_at (further_on v.distances (f.number - v.number)) d ≡ 1) ↔ RefersOut f.number d ls
old_is ls v f g d up low = by (ltb (f.number - v.number) d) refl
  where
    gap : ℕ
    gap = f.number - v.number

    near : RefersTo f.number d ls → gap < d
    near refers = omega (arith, refers_low f.number d v.number ls g.unit.latest g.rise g.back refers, g.up)

    at_gap : d ≤ gap → (b : Bool) → ltb d gap ≡ b → bit_at (moved_on (known v.distances) gap) d ≡ 0
    at_gap le true e = moved_low (known v.distances) gap d (ltb-true d gap e) low
    at_gap le false e =
        let zero_is : d - gap ≡ 0 = omega (arith, le) in
        moved_high (known v.distances) gap d (ltb-false d gap e) low ∙ ap (bit_at (known v.distances)) zero_is ∙ known_zero v.distances

    by : (b : Bool) → ltb gap d ≡ b → (bit_at (further_on v.distances gap) d ≡ 1) ↔ RefersOut f.number d ls
    by false e = (
      λ is. absurd (omega (arith, is, further_at v.distances gap d up, at_gap (ltb-false gap d e) (ltb d gap) refl)),
      λ so. absurd (omega (arith, near so.0, ltb-false gap d e)),
    )
    by true e =
        let over = ltb-true gap d e in
        let same : bit_at (further_on v.distances gap) d ≡ bit_at v.distances (d - gap) =
        further_at v.distances gap d up ∙ moved_high (known v.distances) gap d (omega (arith, over)) low ∙ known_at v.distances (d - gap) (omega (arith, over)) (omega (arith, low)) in
        let there = g.unit.distances (d - gap) (omega (arith, over)) (omega (arith, low)) in (
          λ is. let so = there.0 (sym same ∙ is) in (
            moved_refers v.number (d - gap) f.number d ls (omega (arith, over, g.up)) so.0,
            λ own. so.1 (moved_frame f.number d v.number (d - gap) ls (omega (arith, over, g.up)) own),
          ),
          λ so. same ∙ there.1 (
            moved_refers f.number d v.number (d - gap) ls (omega (arith, over, g.up)) so.0,
            λ own. so.1 (moved_frame v.number (d - gap) f.number d ls (omega (arith, over, g.up)) own),
          ),
        )

-- an earlier reference that is further back
old_far : (ls : List Frame) (v : Referring) (f : Frame) → Grows ls v f → (d : ℕ) → 128 ≤ d → RefersOut f.number d ls → bit_at (further_on v.distances (f.number - v.number)) 0 ≡ 1
old_far ls v f g d far so = by (ltb (d - gap) 128) refl
  where
    gap : ℕ
    gap = f.number - v.number

    over : gap < d
    over = omega (arith, refers_low f.number d v.number ls g.unit.latest g.rise g.back so.0, g.up)

    there : RefersOut v.number (d - gap) ls
    there = (
      moved_refers f.number d v.number (d - gap) ls (omega (arith, over, g.up)) so.0,
      λ own. so.1 (moved_frame v.number (d - gap) f.number d ls (omega (arith, over, g.up)) own),
    )

    by : (b : Bool) → ltb (d - gap) 128 ≡ b → bit_at (further_on v.distances gap) 0 ≡ 1
    by false e =
        let is = g.unit.far (d - gap) (ltb-false (d - gap) 128 e) there in
        further_zero v.distances gap (omega (arith, g.up)) ∙ omega (arith, is, bit_of_low (not (is_within (known v.distances) gap)))
    by true e =
        let low = ltb-true (d - gap) 128 e in
        let is = (g.unit.distances (d - gap) (omega (arith, over)) low).1 there in
        let lost : Lost (known v.distances) gap 128 = record { place = d - gap; low = low; is = known_at v.distances (d - gap) (omega (arith, over)) low ∙ is; out = omega (arith, far, over) } in
        further_zero v.distances gap (omega (arith, g.up)) ∙ rw (not_within (known v.distances) gap lost) (omega (arith, bit_at-lt v.distances 0))

old_only : (ls : List Frame) (v : Referring) (f : Frame) → Grows ls v f → bit_at (further_on v.distances (f.number - v.number)) 0 ≡ 1 → (d : ℕ) × (128 ≤ d) × RefersTo f.number d ls
old_only ls v f g is = by (bit_is v.distances 0) (lost_or (known v.distances) gap 128)
  where
    gap : ℕ
    gap = f.number - v.number

    up : 0 < gap
    up = omega (arith, g.up)

    from_lost : (lost : Lost (known v.distances) gap 128) → (b : Bool) → ltb 0 lost.place ≡ b → (d : ℕ) × (128 ≤ d) × RefersTo f.number d ls
    from_lost lost false e =
        let zero_is : lost.place ≡ 0 = omega (arith, ltb-false 0 lost.place e) in
        absurd (omega (arith, lost.is, known_zero v.distances, ap (bit_at (known v.distances)) zero_is))
    from_lost lost true e =
        let some = ltb-true 0 lost.place e in
        let so = (g.unit.distances lost.place some lost.low).0 (sym (known_at v.distances lost.place some lost.low) ∙ lost.is) in
        (lost.place + gap, lost.out, moved_refers v.number lost.place f.number (lost.place + gap) ls (omega (arith, g.up)) so.0)

    by : ((bit_at v.distances 0 ≡ 0) ⊎ (bit_at v.distances 0 ≡ 1)) → (Lost (known v.distances) gap 128 ⊎ ((e : ℕ) → e < 128 → 128 ≤ e + gap → bit_at (known v.distances) e ≡ 0))
        → (d : ℕ) × (128 ≤ d) × RefersTo f.number d ls
    by (inr so) lost = let it = g.unit.only_far so in (it.0 + gap, omega (arith, it.1), moved_refers v.number it.0 f.number (it.0 + gap) ls (omega (arith, g.up)) it.2)
    by (inl clear) (inl lost) = from_lost lost (ltb 0 lost.place) refl
    by (inl clear) (inr none) =
        let inside : is_within (known v.distances) gap ≡ true = within (known v.distances) gap (known_fits v.distances) none in
        let zero_is : bit_of (not (is_within (known v.distances) gap)) ≡ 0 = rw inside refl in
        absurd (omega (arith, is, clear, further_zero v.distances gap up, zero_is))

next_unit : (ls : List Frame) (v : Referring) (f : Frame) → Grows ls v f → IsUnitOf (f ∷ ls) (grown v f)
next_unit ls v f g = record {
  latest = refl;
  frames = λ d low. frames_of d low;
  distances = λ d up low. (λ is. there d up low (or_one old new d is), λ so. one_or old new d (back d up low so.0 so.1));
  far = λ d far so. one_or old new 0 (far_of d far so.0 so.1);
  only_far = λ is. only (or_one old new 0 is);
  base = (λ e. let parts = both v.is_base (is_of_base f.descriptor) e in ((base_is f.descriptor).0 parts.1, g.unit.base.0 parts.0), λ e. and_from v.is_base (is_of_base f.descriptor) (g.unit.base.1 e.1) ((base_is f.descriptor).1 e.0));
}
  where
    own : ℕ
    own = moved_on v.frames (f.number - v.number)

    old : ℕ
    old = further_on v.distances (f.number - v.number)

    rs : List ℕ
    rs = f.descriptor.references

    new : ℕ
    new = bit_and (mask_of 0 rs) (2 ^ 128 - 1 - own)

    frames_of : (d : ℕ) → d < 128 → (bit_at (bit_or own 1) d ≡ 1) ↔ HasFrame f.number d (f ∷ ls)
    frames_of zero low = (λ e. inl (omega arith), λ e. one_or own 1 0 (inr (bit_at-pow_same 0)))
    frames_of (suc d) low = (λ is. has_there (or_one own 1 (suc d) is), has_back)
      where
        has_there : ((bit_at own (suc d) ≡ 1) ⊎ (bit_at 1 (suc d) ≡ 1)) → HasFrame f.number (suc d) (f ∷ ls)
        has_there (inl e) = inr ((own_is ls v f g (suc d) low).0 e)
        has_there (inr e) = absurd (omega (arith, e, one_at (suc d) (omega arith)))

        has_back : HasFrame f.number (suc d) (f ∷ ls) → bit_at (bit_or own 1) (suc d) ≡ 1
        has_back (inl e) = absurd (omega (arith, e))
        has_back (inr has) = one_or own 1 (suc d) (inl ((own_is ls v f g (suc d) low).1 has))

    others : (d : ℕ) → 0 < d → (HasFrame f.number d ls → ⊥) → HasFrame f.number d (f ∷ ls) → ⊥
    others d up out (inl e) = omega (arith, e, up)
    others d up out (inr has) = out has

    there : (d : ℕ) → 0 < d → d < 128 → ((bit_at old d ≡ 1) ⊎ (bit_at new d ≡ 1)) → RefersOut f.number d (f ∷ ls)
    there d up low (inl e) = let so = (old_is ls v f g d up low).0 e in (inr so.0, others d up so.1)
    there d up low (inr e) =
        let here : bit_at (mask_of 0 rs) d ≡ 1 = omega (arith, e, new_is ls v f g d low, bit_at-lt (mask_of 0 rs) d) in
        let free : bit_at own d ≡ 0 = omega (arith, e, new_is ls v f g d low, bit_at-lt (mask_of 0 rs) d) in
        (by (mask_there 0 d rs g.positive up low here), others d up (λ has. omega (arith, free, (own_is ls v f g d low).1 has)))
      where
        by : ((bit_at 0 d ≡ 1) ⊎ HasNumber d rs) → RefersTo f.number d (f ∷ ls)
        by (inl z) = absurd (omega (arith, z, bit_at-zero d))
        by (inr has) = inl (d, has, refl)

    free_at : (d : ℕ) → d < 128 → (HasFrame f.number d (f ∷ ls) → ⊥) → bit_at own d ≡ 0
    free_at d low out = by (bit_is own d)
      where
        by : ((bit_at own d ≡ 0) ⊎ (bit_at own d ≡ 1)) → bit_at own d ≡ 0
        by (inl e) = e
        by (inr e) = absurd (out (inr ((own_is ls v f g d low).0 e)))

    back : (d : ℕ) → 0 < d → d < 128 → RefersTo f.number d (f ∷ ls) → (HasFrame f.number d (f ∷ ls) → ⊥) → (bit_at old d ≡ 1) ⊎ (bit_at new d ≡ 1)
    back d up low (inl (r, has, e)) out =
        let here = mask_back 0 d rs g.positive up low (same_number r d rs (omega (arith, e)) has) in
        inr (new_is ls v f g d low ∙ omega (arith, here, free_at d low out))
    back d up low (inr refers) out = inl ((old_is ls v f g d up low).1 (refers, λ has. out (inr has)))

    far_of : (d : ℕ) → 128 ≤ d → RefersTo f.number d (f ∷ ls) → (HasFrame f.number d (f ∷ ls) → ⊥) → (bit_at old 0 ≡ 1) ⊎ (bit_at new 0 ≡ 1)
    far_of d far (inl (r, has, e)) out =
        let here = mask_far 0 d rs g.positive far (same_number r d rs (omega (arith, e)) has) in
        let free : bit_at own 0 ≡ 0 = moved_low v.frames (f.number - v.number) 0 (omega (arith, g.up)) (omega arith) in
        inr (new_is ls v f g 0 (omega arith) ∙ omega (arith, here, free))
    far_of d far (inr refers) out = inl (old_far ls v f g d far (refers, λ has. out (inr has)))

    only : ((bit_at old 0 ≡ 1) ⊎ (bit_at new 0 ≡ 1)) → (d : ℕ) × (128 ≤ d) × RefersTo f.number d (f ∷ ls)
    only (inl e) = let it = old_only ls v f g e in (it.0, it.1, inr it.2)
    only (inr e) = by (mask_zero 0 rs g.positive (omega (arith, e, new_is ls v f g 0 (omega arith), bit_at-lt (mask_of 0 rs) 0)))
      where
        by : ((bit_at 0 0 ≡ 1) ⊎ Far rs) → (d : ℕ) × (128 ≤ d) × RefersTo f.number d (f ∷ ls)
        by (inl z) = absurd (omega (arith, z, bit_at-zero 0))
        by (inr far) = (far.reference, far.out, inl (far.reference, far.has, refl))

-- ---- all frames of a unit

abbrev pub unit_of : List Frame → Option Referring
unit_of [] = None
unit_of (f ∷ fs) = Some (with_frame (unit_of fs) f.number f.descriptor)

folded : (before fs : List Frame) → with_frames (unit_of before) fs ≡ unit_of (latest_first before fs)
folded before [] = refl
folded before (f ∷ fs) = folded (f ∷ before) fs

all_of : (f : Frame) (fs : List Frame) → NumbersRise (f ∷ fs) → ReferBack (f ∷ fs) → IsUnitOf (f ∷ fs) (with_frame (unit_of fs) f.number f.descriptor)
all_of f [] rise back = first_is f back.0
all_of f (h ∷ hs) rise back =
    let before = all_of h hs rise.1 back.1 in
    let v : Referring = with_frame (unit_of hs) h.number h.descriptor in
    let up : v.number < f.number = omega (arith, before.latest, rise.0) in
    subst (λ (u : Referring). IsUnitOf (f ∷ h ∷ hs) u) (sym (grown_is v f up)) (next_unit (h ∷ hs) v f (record { up = up; rise = rise.1; back = back.1; positive = back.0; unit = before }))

pub units_are_sets : UnitsAreSets
units_are_sets fs u rise back is = by (latest_first [] fs) rise back (sym (folded [] fs) ∙ is)
  where
    by : (ls : List Frame) → NumbersRise ls → ReferBack ls → unit_of ls ≡ Some u → IsUnitOf ls u
    by [] rise back e = let no : ⊥ = cc in absurd no
    by (f ∷ gs) rise back e = let same : with_frame (unit_of gs) f.number f.descriptor ≡ u = cc in subst (λ (x : Referring). IsUnitOf (f ∷ gs) x) same (all_of f gs rise back)
