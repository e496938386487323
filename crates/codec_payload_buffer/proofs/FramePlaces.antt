-- Places of complete frames, found by binary searches, and changes at these places.
use Rattle.std.proofs.Common.{◌≡◌, ℕ, zero, suc, ◌<◌, ◌≤◌, ◌+◌, ◌-◌, [], ◌∷◌, ◌++◌, List, length, get_or, refl, ap, sym, ◌∙◌, arith, true, false, cond, ltb, leb, eqb}
use Rattle.std.specs.Prelude.{slice_set}
use Rattle.std.specs.List.{insert}
use Rattle.std.specs.List.Sorted.{IsNonDecreasingBy, IsPartitionPoint}
use Rattle.std.proofs.lemmas.Bool.Decides.{nat_tests}
use Rattle.codec_payload_buffer.specs.Rows.{noted, frame_place, EndsAbove, EndsRise}
use Rattle.codec_payload_buffer.specs.declared.buffer.frames.CompleteFrame.{CompleteFrame}
use Rattle.codec_payload_codec.proofs.CaseLemmas.{by_test}
use Rattle.codec_payload_buffer.proofs.SearchLemmas.{all_below}

-- Frames in the order of their ends

ends_at : (n : ℕ) (fs : List CompleteFrame) → EndsAbove n fs → (k : ℕ) (d : CompleteFrame) → k < length fs → n < (get_or fs k d).last
ends_at n [] a k d l = absurd (omega arith)
ends_at n (f ∷ fs) a zero d l = a.0
ends_at n (f ∷ fs) a (suc k) d l = let over = ends_at f.last fs a.1 k d (omega arith) in omega (arith, over, a.0)

ends_rest : (n : ℕ) (fs : List CompleteFrame) → EndsAbove n fs → EndsRise fs
ends_rest n [] a = tt
ends_rest n (f ∷ fs) a = a.1

pub frames_by_end : (fs : List CompleteFrame) → EndsRise fs → IsNonDecreasingBy (λ (f : CompleteFrame). f.last) fs
frames_by_end [] a i j d le l = absurd (omega arith)
frames_by_end (f ∷ fs) a zero zero d le l = omega arith
frames_by_end (f ∷ fs) a zero (suc j) d le l = let over = ends_at f.last fs a j d (omega arith) in omega (arith, over)
frames_by_end (f ∷ fs) a (suc i) zero d le l = absurd (omega arith)
frames_by_end (f ∷ fs) a (suc i) (suc j) d le l = frames_by_end fs (ends_rest f.last fs a) i j d (omega arith) (omega arith)

pub end_from_point : (n : ℕ) (fs : List CompleteFrame) (i : ℕ) → IsPartitionPoint (λ (f : CompleteFrame). f.last < n) (λ (f : CompleteFrame). n ≤ f.last) fs i → i ≤ length fs → i ≡ frame_place n fs
end_from_point n [] i point le = omega arith
end_from_point n (f ∷ fs) zero point le = let t : ltb f.last n ≡ false = grind (arith, nat_tests, point.1 0 f (omega arith) (omega arith)) in rw t refl
end_from_point n (f ∷ fs) (suc i) point le =
    let t : ltb f.last n ≡ true = grind (arith, nat_tests, point.0 0 f (omega arith) (omega arith)) in
    let rest = end_from_point n fs i (λ k d low l. point.0 (suc k) d (omega arith) (omega arith), λ k d low l. point.1 (suc k) d (omega arith) (omega arith)) (omega arith) in
    rw t (omega (arith, rest))

pub frame_place_within : (n : ℕ) (fs : List CompleteFrame) → frame_place n fs ≤ length fs
frame_place_within n [] = omega arith
frame_place_within n (f ∷ fs) = grind (arith, nat_tests, frame_place_within n fs)

-- whether a frame ends at a number or above, by the last frame

below_place : (n : ℕ) (fs : List CompleteFrame) (k : ℕ) (d : CompleteFrame) → k < frame_place n fs → (get_or fs k d).last < n
below_place n [] k d l = absurd (omega arith)
below_place n (f ∷ fs) zero d l = by_test (ltb f.last n) (λ b. 0 < cond b (frame_place n fs + 1) 0 → f.last < n)
    (λ e m. grind (arith, nat_tests, e)) (λ e m. absurd (omega (arith, m))) l
below_place n (f ∷ fs) (suc k) d l = by_test (ltb f.last n) (λ b. suc k < cond b (frame_place n fs + 1) 0 → (get_or fs k d).last < n)
    (λ e m. below_place n fs k d (omega (arith, m))) (λ e m. absurd (omega (arith, m))) l

pub within_frames : (n : ℕ) (fs : List CompleteFrame) (x : CompleteFrame) → EndsRise fs → 0 < length fs → x ≡ get_or fs (length fs - 1) x → leb n x.last ≡ ltb (frame_place n fs) (length fs)
within_frames n fs x rise some is =
    by_test (leb n x.last) (λ b. leb n x.last ≡ b → b ≡ ltb (frame_place n fs) (length fs)) (λ e at. yes (grind (arith, nat_tests, e))) (λ e at. no (grind (arith, nat_tests, e))) refl
  where
    within : frame_place n fs ≤ length fs
    within = frame_place_within n fs

    yes : n ≤ x.last → true ≡ ltb (frame_place n fs) (length fs)
    yes le = by_test (ltb (frame_place n fs) (length fs)) (λ b. true ≡ b) (λ e. refl)
        (λ e.
        let all : length fs ≤ frame_place n fs = grind (arith, nat_tests, e) in
        let low : x.last < n = rw (ap (λ (y : CompleteFrame). y.last) is) (below_place n fs (length fs - 1) x (omega (arith, all, some))) in
        absurd (omega (arith, low, le)))

    no : x.last < n → false ≡ ltb (frame_place n fs) (length fs)
    no l =
        let low = all_below (λ (y : CompleteFrame). y.last) fs n (length fs - 1) x (frames_by_end fs rise) (omega (arith, some)) is l in
        let whole : length fs ≡ frame_place n fs = end_from_point n fs (length fs) ((λ k d from m. low k d from (omega (arith, m, some))), (λ k d from m. absurd (omega (arith, from, m)))) (omega arith) in
        by_test (ltb (frame_place n fs) (length fs)) (λ b. false ≡ b) (λ e. let less : frame_place n fs < length fs = grind (arith, nat_tests, e) in absurd (omega (arith, less, whole))) (λ e. refl)

-- a frame with this end is there
pub note_over : (k : ℕ) (f x : CompleteFrame) (fs : List CompleteFrame) → k ≡ frame_place f.last fs → k < length fs → x ≡ get_or fs k x → x.last ≡ f.last → slice_set fs k f ≡ noted f fs
note_over k f x [] at l is same = absurd (omega arith)
note_over zero f x (g ∷ gs) at l is same =
    let e : g.last ≡ f.last = sym (ap (λ (y : CompleteFrame). y.last) is) ∙ same in
    let t : ltb g.last f.last ≡ false = grind (arith, nat_tests, e) in
    let u : eqb g.last f.last ≡ true = grind (arith, nat_tests, e) in
    rw (t, u) refl
note_over (suc k) f x (g ∷ gs) at l is same =
    by_test (ltb g.last f.last) (λ b. suc k ≡ cond b (frame_place f.last gs + 1) 0 → g ∷ slice_set gs k f ≡ cond b (g ∷ noted f gs) (cond (eqb g.last f.last) (f ∷ gs) (f ∷ g ∷ gs)))
    (λ e at. ap (λ (zs : List CompleteFrame). g ∷ zs) (note_over k f x gs (omega (arith, at)) (omega arith) is same))
    (λ e at. absurd (omega (arith, at))) at

-- and is not there
pub note_new : (k : ℕ) (f : CompleteFrame) (fs : List CompleteFrame) → k ≡ frame_place f.last fs
    → (k < length fs → (x : CompleteFrame) × (x ≡ get_or fs k x) × (x.last ≡ f.last → ⊥)) → insert fs k f ≡ noted f fs
note_new zero f [] at other = refl
note_new (suc k) f [] at other = absurd (omega (arith, at))
note_new zero f (g ∷ gs) at other =
    let there = other (omega arith) in
    by_test (ltb g.last f.last) (λ b. 0 ≡ cond b (frame_place f.last gs + 1) 0 → f ∷ g ∷ gs ≡ cond b (g ∷ noted f gs) (cond (eqb g.last f.last) (f ∷ gs) (f ∷ g ∷ gs)))
    (λ e at. absurd (omega (arith, at)))
    (λ e at. by_test (eqb g.last f.last) (λ b. f ∷ g ∷ gs ≡ cond b (f ∷ gs) (f ∷ g ∷ gs))
    (λ u. absurd (there.2 (ap (λ (y : CompleteFrame). y.last) there.1 ∙ grind (arith, nat_tests, u)))) (λ u. refl)) at
note_new (suc k) f (g ∷ gs) at other =
    by_test (ltb g.last f.last) (λ b. suc k ≡ cond b (frame_place f.last gs + 1) 0 → g ∷ insert gs k f ≡ cond b (g ∷ noted f gs) (cond (eqb g.last f.last) (f ∷ gs) (f ∷ g ∷ gs)))
    (λ e at. ap (λ (zs : List CompleteFrame). g ∷ zs) (note_new k f gs (omega (arith, at)) (λ l. other (omega arith))))
    (λ e at. absurd (omega (arith, at))) at

-- a frame above all
pub noted_last : (f : CompleteFrame) (ks : List CompleteFrame) → frame_place f.last ks ≡ length ks → noted f ks ≡ ks ++ f ∷ []
noted_last f [] at = refl
noted_last f (k ∷ ks) at =
    by_test (ltb k.last f.last) (λ b. cond b (frame_place f.last ks + 1) 0 ≡ length (k ∷ ks)
    → cond b (k ∷ noted f ks) (cond (eqb k.last f.last) (f ∷ ks) (f ∷ k ∷ ks)) ≡ k ∷ (ks ++ f ∷ []))
    (λ e m. ap (λ (zs : List CompleteFrame). k ∷ zs) (noted_last f ks (omega (arith, m)))) (λ e m. absurd (omega (arith, m))) at
