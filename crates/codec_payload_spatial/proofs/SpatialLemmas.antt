-- Which layers are kept, and where the marker is.
use Rattle.std.specs.Prelude.{if◌then◌else◌, ◌==◌}
use Rattle.std.proofs.Common.{◌≡◌, ◌∙◌, ◌⊎◌, inl, inr, ℕ, ◌+◌, ◌≤◌, ◌<◌, ◌&&◌, ◌||◌, min, Bool, true, false, List, [], ◌∷◌, ◌++◌, Option, Some, None, refl, sym, ap, subst, arith, nat_le}
use Rattle.std.proofs.lemmas.Bool.Decides.{nat_tests}
use Rattle.codec_payload_spatial.specs.declared.spatial.SpatialPlace.{SpatialPlace}
use Rattle.codec_payload_spatial.specs.declared.spatial.SpatialFilter.{SpatialFilter}
use Rattle.codec_payload_spatial.specs.Spatial.Call.{Takes, Wants}
use Rattle.codec_payload_spatial.specs.Spatial.{ArePictureFrom, Call, EndsWith, IsKeptSinceIntra, IsLayer, KeptLayersAreWhole, OneMarkerEnds, Part, after_calls, after_packet, begins_picture, begun, decided, is_late, kept_from, kept_markers, kept_parts, nearest_to, with_decided}

-- ---- what is kept rises with intra pictures alone

kept_from_within : (place : SpatialPlace) (s : SpatialFilter) → place.intra ≡ false → kept_from place s ≤ s.kept
kept_from_within place s clear = subst (λ (b : Bool). (if b then s.wanted else min s.kept s.wanted) ≤ s.kept) (sym clear) (omega arith)

begun_within : (number : ℕ) (place : SpatialPlace) (s : SpatialFilter) → kept_from place s ≤ s.kept → (begun number place s).kept ≤ s.kept
begun_within number place s le = by_same (kept_from place s == s.kept)
  where
    by_same : (b : Bool) → (if b then s else record s { before = s.kept; kept = kept_from place s; since = number }).kept ≤ s.kept
    by_same true = omega arith
    by_same false = le

takes_within : (number : ℕ) (place : SpatialPlace) (s : SpatialFilter) → (begins_picture place ≡ true → place.intra ≡ false) → (after_packet number place s).kept ≤ s.kept
takes_within number place s not_intra = by_late (is_late (nearest_to s.highest number) s.highest)
  where
    next : SpatialFilter
    next = record s { highest = Some (nearest_to s.highest number) }

    by_begins : (b : Bool) → begins_picture place ≡ b → (if b then begun (nearest_to s.highest number) place next else next).kept ≤ s.kept
    by_begins true is = begun_within (nearest_to s.highest number) place next (kept_from_within place next (not_intra is))
    by_begins false is = omega arith

    by_late : (b : Bool) → (if b then s else (if begins_picture place then begun (nearest_to s.highest number) place next else next)).kept ≤ s.kept
    by_late true = omega arith
    by_late false = by_begins (begins_picture place) refl

not_both : (a b : Bool) → a ≡ true → (a && b) ≡ false → b ≡ false
not_both true b is clear = clear
not_both false b is clear = cc

pub kept_whole : KeptLayersAreWhole
kept_whole wanted layer [] le = le
kept_whole wanted layer (Wants other ∷ calls) le = (le, inr (kept_whole wanted layer calls le))
kept_whole wanted layer (Takes number place ∷ calls) le = (le, by_intra (begins_picture place && place.intra) refl (λ less. kept_whole wanted layer calls less))
  where
    by_intra : (b : Bool) → (begins_picture place && place.intra) ≡ b → (layer ≤ (after_calls wanted calls).kept → IsKeptSinceIntra wanted layer calls)
        → ((begins_picture place && place.intra) ≡ true) ⊎ IsKeptSinceIntra wanted layer calls
    by_intra true is before = inl is
    by_intra false is before =
        let within = takes_within number place (after_calls wanted calls) (λ begins. not_both (begins_picture place) place.intra begins is) in
        inr (before (omega (arith, le, within)))

-- ---- one packet

le_true : (m n : ℕ) → m ≤ n → nat_le m n ≡ true
le_true m n h = grind (arith, nat_tests)

le_false : (m n : ℕ) → n < m → nat_le m n ≡ false
le_false m n h = grind (arith, nat_tests)

eq_false : (m n : ℕ) → m < n → (m == n) ≡ false
eq_false m n h = grind (arith, nat_tests)

decided_as : (kept : ℕ) (place : SpatialPlace) (m : Bool) (layer : ℕ) (ends marker : Bool) → layer ≤ kept → place.layer ≡ layer → place.ends ≡ ends → m ≡ marker
    → decided kept place m ≡ Some (marker || (ends && layer == kept))
decided_as kept place m layer ends marker le is_layer is_end is_marker =
    ap (λ (n : ℕ). if nat_le n kept then Some (m || (place.ends && n == kept)) else None) is_layer
    ∙ ap (λ (b : Bool). if nat_le layer kept then Some (m || (b && layer == kept)) else None) is_end
    ∙ ap (λ (b : Bool). if nat_le layer kept then Some (b || (ends && layer == kept)) else None) is_marker
    ∙ ap (λ (b : Bool). if b then Some (marker || (ends && layer == kept)) else None) (le_true layer kept le)

decided_out : (kept : ℕ) (place : SpatialPlace) (m : Bool) (layer : ℕ) → kept < layer → place.layer ≡ layer → decided kept place m ≡ None
decided_out kept place m layer lt is_layer =
    ap (λ (n : ℕ). if nat_le n kept then Some (m || (place.ends && n == kept)) else None) is_layer
    ∙ ap (λ (b : Bool). if b then Some (m || (place.ends && layer == kept)) else None) (le_false layer kept lt)

-- ---- one layer

ends_cons : (last : Bool) (xs : List Bool) → EndsWith last xs → EndsWith last (false ∷ xs)
ends_cons last [] h = absurd h
ends_cons last (x ∷ xs) h = (refl, h)

layer_kept : (kept layer : ℕ) (marker : Bool) (parts : List Part) → IsLayer layer marker parts → layer ≤ kept → EndsWith (marker || layer == kept) (kept_parts kept parts)
layer_kept kept layer marker [] is le = absurd is
layer_kept kept layer marker (part ∷ []) is le =
    subst (λ (d : Option Bool). EndsWith (marker || layer == kept) (with_decided d [])) (sym (decided_as kept part.place part.marker layer true marker le is.0 is.1 is.2)) refl
layer_kept kept layer marker (part ∷ next ∷ parts) is le =
    subst (λ (d : Option Bool). EndsWith (marker || layer == kept) (with_decided d (kept_parts kept (next ∷ parts))))
    (sym (decided_as kept part.place part.marker layer false false le is.0 is.1 is.2))
    (ends_cons (marker || layer == kept) (kept_parts kept (next ∷ parts)) (layer_kept kept layer marker (next ∷ parts) is.3 le))

layer_out : (kept layer : ℕ) (marker : Bool) (parts : List Part) → IsLayer layer marker parts → kept < layer → kept_parts kept parts ≡ []
layer_out kept layer marker [] is lt = refl
layer_out kept layer marker (part ∷ []) is lt = ap (λ (d : Option Bool). with_decided d []) (decided_out kept part.place part.marker layer lt is.0)
layer_out kept layer marker (part ∷ next ∷ parts) is lt =
    ap (λ (d : Option Bool). with_decided d (kept_parts kept (next ∷ parts))) (decided_out kept part.place part.marker layer lt is.0)
    ∙ layer_out kept layer marker (next ∷ parts) is.3 lt

-- ---- a picture

ends_nil : (last : Bool) (xs : List Bool) → EndsWith last xs → EndsWith last (xs ++ [])
ends_nil last [] h = absurd h
ends_nil last (x ∷ []) h = h
ends_nil last (x ∷ y ∷ xs) h = (h.0, ends_nil last (y ∷ xs) h.1)

ends_one : (last x : Bool) (ys : List Bool) → x ≡ false → EndsWith last ys → EndsWith last (x ∷ ys)
ends_one last x [] clear h = absurd h
ends_one last x (y ∷ ys) clear h = (clear, h)

ends_append : (last : Bool) (xs ys : List Bool) → EndsWith false xs → EndsWith last ys → EndsWith last (xs ++ ys)
ends_append last [] ys h k = absurd h
ends_append last (x ∷ []) ys h k = ends_one last x ys h k
ends_append last (x ∷ y ∷ xs) ys h k = (h.0, ends_append last (y ∷ xs) ys h.1 k)

all_out : (kept layer : ℕ) (layers : List (List Part)) → ArePictureFrom layer layers → kept < layer → kept_markers kept layers ≡ []
all_out kept layer [] are lt = refl
all_out kept layer (parts ∷ []) are lt = ap (λ (xs : List Bool). xs ++ []) (layer_out kept layer true parts are lt)
all_out kept layer (parts ∷ next ∷ layers) are lt =
    ap (λ (xs : List Bool). xs ++ kept_markers kept (next ∷ layers)) (layer_out kept layer false parts are.0 lt)
    ∙ all_out kept (layer + 1) (next ∷ layers) are.1 (omega (arith, lt))

ends_from : (kept layer : ℕ) (layers : List (List Part)) → ArePictureFrom layer layers → layer ≤ kept → EndsWith true (kept_markers kept layers)
ends_from kept layer [] are le = absurd are
ends_from kept layer (parts ∷ []) are le = ends_nil true (kept_parts kept parts) (layer_kept kept layer true parts are le)
ends_from kept layer (parts ∷ next ∷ layers) are le = by_last (nat_le kept layer) refl (λ less. ends_from kept (layer + 1) (next ∷ layers) are.1 less)
  where
    mine : EndsWith (layer == kept) (kept_parts kept parts)
    mine = layer_kept kept layer false parts are.0 le

    by_last : (b : Bool) → nat_le kept layer ≡ b → (layer + 1 ≤ kept → EndsWith true (kept_markers kept (next ∷ layers)))
        → EndsWith true (kept_parts kept parts ++ kept_markers kept (next ∷ layers))
    by_last true is later =
        let same : (layer == kept) ≡ true = grind (arith, nat_tests) in
        let none : kept_markers kept (next ∷ layers) ≡ [] = all_out kept (layer + 1) (next ∷ layers) are.1 (grind (arith, nat_tests)) in
        subst (λ (xs : List Bool). EndsWith true (kept_parts kept parts ++ xs)) (sym none)
        (ends_nil true (kept_parts kept parts) (subst (λ (b : Bool). EndsWith b (kept_parts kept parts)) same mine))
    by_last false is later =
        let below : layer < kept = grind (arith, nat_tests) in
        ends_append true (kept_parts kept parts) (kept_markers kept (next ∷ layers))
        (subst (λ (b : Bool). EndsWith b (kept_parts kept parts)) (eq_false layer kept below) mine)
        (later (omega (arith, below)))

pub one_marker : OneMarkerEnds
one_marker kept layers are = ends_from kept 0 layers are (omega arith)
