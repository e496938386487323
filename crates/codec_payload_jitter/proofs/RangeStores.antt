-- A kept list of missing numbers stays right if a range of numbers is noted.
use Rattle.std.proofs.Common.{◌≡◌, ◌∙◌, refl, ap, ℕ, ◌-◌, ◌<◌, ◌≤◌, ◌⊎◌, List, Bool, cond, ltb, arith, ◌&&◌, not, Option, Some, None, inl, inr, min, max}
use Rattle.std.proofs.lemmas.Bool.Decides.{nat_tests}
use Rattle.codec_payload_codec.proofs.CaseLemmas.{by_test}
use Rattle.codec_payload_buffer.specs.Held.{has_number}
use Rattle.codec_payload_buffer.specs.Steps.{State}
use Rattle.codec_payload_jitter.specs.KeptMissing.{IsKnown, Keeps, Kept, touched_from, touched_range}
use Rattle.codec_payload_jitter.specs.NoMediaNumbers.{Rises}
use Rattle.codec_payload_jitter.specs.NotedRanges.{lowest_if_crowded, noted_between}
use Rattle.codec_payload_jitter.proofs.KeptLemmas.{keeps_by}
use Rattle.codec_payload_jitter.proofs.RangeLemmas.{noted_same}

range_known : (first end : ℕ) (k : Kept) (c : Option ℕ) (a b : ℕ) → IsKnown (touched_range first end k) c a b → IsKnown k c a b × ((m : ℕ) → a ≤ m → m < b → (m < first) ⊎ (end ≤ m))
range_known first end k c a b = by_test (ltb first k.high)
    (λ x. IsKnown (cond x (record k { from = min k.from first; to = max k.to end }) k) c a b → IsKnown k c a b × ((m : ℕ) → a ≤ m → m < b → (m < first) ⊎ (end ≤ m)))
    (λ e is. (
      record { above = is.above; below = is.below; apart = elim is.apart [ inl under ↦ inl (omega (arith, under)) | inr over ↦ inr (omega (arith, over)) ]; over = is.over },
      λ m le l. elim is.apart [ inl under ↦ inl (omega (arith, under, l)) | inr over ↦ inr (omega (arith, over, le)) ],
    ))
    (λ e is. (is, λ m le l. let past : k.high ≤ first = grind (arith, nat_tests, e) in inl (omega (arith, is.below, l, past))))

range_same : (first end : ℕ) (k : Kept)
    → ((touched_range first end k).numbers ≡ k.numbers) × ((touched_range first end k).low ≡ k.low) × ((touched_range first end k).high ≡ k.high)
range_same first end k = by_test (ltb first k.high)
    (λ x. ((cond x (record k { from = min k.from first; to = max k.to end }) k).numbers ≡ k.numbers) × ((cond x (record k { from = min k.from first; to = max k.to end }) k).low ≡ k.low)
    × ((cond x (record k { from = min k.from first; to = max k.to end }) k).high ≡ k.high))
    (λ e. (refl, refl, refl)) (λ e. (refl, refl, refl))

from_known : (o : Option ℕ) (k : Kept) (c : Option ℕ) (a b : ℕ) → IsKnown (touched_from o k) c a b → IsKnown k c a b × ((m : ℕ) → a ≤ m → m < b → (l : ℕ) → o ≡ Some l → m < l)
from_known None k c a b is = (is, λ m le less l same. absurd (cc))
from_known (Some n) k c a b is =
    let known = range_known n k.high k c a b is in (
      known.0,
      λ m le less l same.
          let at : n ≡ l = cc in
          elim (known.1 m le less) [ inl under ↦ omega (arith, under, at) | inr over ↦ absurd (omega (arith, over, less, known.0.below)) ],
    )

from_same : (o : Option ℕ) (k : Kept) → ((touched_from o k).numbers ≡ k.numbers) × ((touched_from o k).low ≡ k.low) × ((touched_from o k).high ≡ k.high)
from_same None k = (refl, refl, refl)
from_same (Some n) k = range_same n k.high k

pub ranged_keeps : (first end : ℕ) (k : Kept) (s : State) (ns : List ℕ) → Rises ns → first ≤ end → Keeps k s ns
    → Keeps (touched_from (lowest_if_crowded (end - first) ns) (touched_range first end k)) s (noted_between first end ns)
ranged_keeps first end k s ns rises order keeps =
    let o : Option ℕ = lowest_if_crowded (end - first) ns in
    let one = range_same first end k in
    let two = from_same o (touched_range first end k) in
    keeps_by k (touched_from o (touched_range first end k)) s s ns (noted_between first end ns) keeps (two.0 ∙ one.0) (two.1 ∙ one.1) (two.2 ∙ one.2)
    (λ a b is. (range_known first end k s.cutoff a b (from_known o (touched_range first end k) s.cutoff a b is).0).0)
    (λ a b m is le l.
    let kept = from_known o (touched_range first end k) s.cutoff a b is in
    let known = range_known first end k s.cutoff a b kept.0 in
    ap (λ (x : Bool). not (has_number m s.held) && not x) (noted_same m first end ns rises order (known.1 m le l) (kept.1 m le l)))
