-- The packets that left, one after another.
use Rattle.std.proofs.Common.{◌≡◌, ◌≤◌, ◌<◌, ◌∙◌, refl, sym, ap, ap₂, ℕ, suc, ◌+◌, ◌-◌, List, [], ◌∷◌, ◌++◌, Option, Some, None, append_assoc, drop, take, length, get_or, arith}
use Rattle.std.proofs.lemmas.List.{drop_more}
use Rattle.codec_payload_bandwidth_path.specs.Departures.{Departed, departed_in, first_index, no_departure, reported_fates, time_or, unknown_fate, unknown_fates}
use Rattle.codec_payload_bandwidth_estimator.specs.declared.estimator.PacketFate.{PacketFate}
use Rattle.codec_payload_bandwidth_path.specs.declared.departures.Departure.{Departure}

one_taken : (n : ℕ) (d : Departure) (ds : List Departure) → take (suc n) (d ∷ ds) ≡ d ∷ take n ds
one_taken n d ds = refl

-- the first packet, and those after it
pub departed_step : (i to : ℕ) (d : Departed) → first_index d ≤ i → i < to → to ≤ d.count
    → departed_in i to d ≡ get_or d.latest (i - first_index d) no_departure ∷ departed_in (i + 1) to d
departed_step i to d above within most =
    let here : i - first_index d < length d.latest = omega arith in
    let more : to - i ≡ suc (to - (i + 1)) = omega (arith, within) in
    let next : (i - first_index d) + 1 ≡ (i + 1) - first_index d = omega (arith, above) in
    ap₂ (λ (n : ℕ) (ds : List Departure). take n ds) more (drop_more d.latest (i - first_index d) no_departure here)
    ∙ (one_taken (to - (i + 1)) (get_or d.latest (i - first_index d) no_departure) (drop ((i - first_index d) + 1) d.latest)
    ∙ ap (λ (k : ℕ). get_or d.latest (i - first_index d) no_departure ∷ take (to - (i + 1)) (drop k d.latest)) next)

-- the same by a place behind the first of some packets
pub departed_after : (from place to : ℕ) (d : Departed) → first_index d ≤ from → from + place < to → to ≤ d.count
    → departed_in (from + place) to d ≡ get_or d.latest ((from - first_index d) + place) no_departure ∷ departed_in (from + (place + 1)) to d
departed_after from place to d above within most =
    let at : (from + place) - first_index d ≡ (from - first_index d) + place = omega (arith, above) in
    let next : (from + place) + 1 ≡ from + (place + 1) = omega arith in
    departed_step (from + place) to d (omega (arith, above)) within most
    ∙ ap₂ (λ (k i : ℕ). get_or d.latest k no_departure ∷ departed_in i to d) at next

none_taken : (ds : List Departure) → take 0 ds ≡ []
none_taken ds = refl

pub departed_none : (i to : ℕ) (d : Departed) → to ≤ i → departed_in i to d ≡ []
departed_none i to d past =
    let none : to - i ≡ 0 = omega (arith, past) in
    ap (λ (n : ℕ). take n (drop (i - first_index d) d.latest)) none ∙ none_taken (drop (i - first_index d) d.latest)

-- one more packet of which feedback was lost
pub unknown_more : (fates : List PacketFate) (d : Departure) (ds rest : List Departure) → ds ≡ d ∷ rest → (fates ++ unknown_fate d ∷ []) ++ unknown_fates rest ≡ fates ++ unknown_fates ds
unknown_more fates d ds rest is = append_assoc fates (unknown_fate d ∷ []) (unknown_fates rest) ∙ ap (λ (xs : List Departure). fates ++ unknown_fates xs) (sym is)

pub reported_nothing : (clock : ℕ) (ds : List Departure) → reported_fates clock ds [] ≡ []
reported_nothing clock [] = refl
reported_nothing clock (d ∷ ds) = refl

-- the time of a status and of those behind it, or else one before it
pub time_or_more : (behind own before : Option ℕ) → time_or (time_or behind own) before ≡ time_or behind (time_or own before)
time_or_more None own before = refl
time_or_more (Some low) own before = refl
