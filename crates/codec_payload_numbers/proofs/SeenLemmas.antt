-- The places of times, from the times and from what arrived with them.
use Rattle.std.proofs.Common.{◌≡◌, refl, ap, zero, suc, ℕ, ◌<◌, List, [], ◌∷◌, length, map, Option, None, arith, slice_set}
use Rattle.std.proofs.lemmas.List.{length-map}
use Rattle.std.specs.List.{zip}
use Rattle.std.specs.Prelude.{slice_index_or}
use Rattle.std.proofs.lemmas.Slice.Zip.{length-zip}
use Rattle.codec_payload_numbers.specs.SeenTimes.{seen_at}
use Rattle.codec_payload_numbers.specs.declared.seen_times.Kind.{Kind}
use Rattle.codec_payload_numbers.specs.declared.seen_times.SeenTime.{SeenTime}

pub length_places : (times : List ℕ) (kinds : List Kind) (n : ℕ) → length times ≡ n → length kinds ≡ n → length (map seen_at (zip times kinds)) ≡ n
length_places times kinds n ts ks = omega (arith, length-map {B = Option SeenTime} (zip times kinds), length-zip times kinds, ts, ks)

pub place_is : (times : List ℕ) (kinds : List Kind) (i : ℕ) (time : ℕ) (kind : Kind) → i < length times → i < length kinds
    → slice_index_or (map seen_at (zip times kinds)) i None ≡ seen_at (slice_index_or times i time, slice_index_or kinds i kind)
place_is [] kinds i time kind t k = absurd (omega (arith, t))
place_is (x ∷ xs) [] i time kind t k = absurd (omega (arith, k))
place_is (x ∷ xs) (y ∷ ys) zero time kind t k = refl
place_is (x ∷ xs) (y ∷ ys) (suc i) time kind t k = place_is xs ys i time kind (omega (arith, t)) (omega (arith, k))

pub set_place : (times : List ℕ) (kinds : List Kind) (i : ℕ) (time : ℕ) (kind : Kind)
    → map seen_at (zip (slice_set times i time) (slice_set kinds i kind)) ≡ slice_set (map seen_at (zip times kinds)) i (seen_at (time, kind))
set_place [] kinds i time kind = refl
set_place (x ∷ xs) [] zero time kind = refl
set_place (x ∷ xs) [] (suc i) time kind = refl
set_place (x ∷ xs) (y ∷ ys) zero time kind = refl
set_place (x ∷ xs) (y ∷ ys) (suc i) time kind = ap (λ (ps : List (Option SeenTime)). seen_at (x, y) ∷ ps) (set_place xs ys i time kind)
