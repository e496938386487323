-- Spatial layers of one stream, and a viewer that does not want the upper ones.
use Rattle.std.specs.Prelude.{◌≡◌, ◌⊎◌, ℕ, suc, ◌/◌, ◌%◌, ◌==◌, ◌<◌, ◌≤◌, ◌+◌, ◌&&◌, ◌||◌, not, min, nat_le, nat_lt, if◌then◌else◌, Bool, true, false, List, [], ◌∷◌, ◌++◌, Option, Some, None}
use Rattle.codec_payload_base.specs.Extended.{extended}
use Rattle.codec_payload_base.specs.Flags.{has_bit}
use Rattle.codec_payload_layers.specs.Layers.{behind_id, front_of}
use Rattle.codec_payload_spatial.specs.declared.spatial.SpatialPlace.{SpatialPlace}
use Rattle.codec_payload_spatial.specs.declared.spatial.SpatialFilter.{SpatialFilter}

-- ---- what a packet says

-- VP9 (RFC 9628, section 4.2): P is bit 6, L bit 5, B bit 3, E bit 2; SID is in bits 1 to 3 of the octet of layers, which is there if L is set
abbrev pub place_with : (flags layer : ℕ) → SpatialPlace
place_with flags layer = record { layer = layer; begins = has_bit flags 3; ends = has_bit flags 2; intra = not (has_bit flags 6) }

abbrev pub place_behind : (layered : Bool) → (flags : ℕ) → Option ℕ → Option SpatialPlace
place_behind false flags layers = Some (place_with flags 0)
place_behind true flags None = None
place_behind true flags (Some layers) = Some (place_with flags (layers / 2 % 8))

abbrev pub place_in : List ℕ → Option SpatialPlace
place_in [] = None
place_in (flags ∷ bytes) = place_behind (has_bit flags 5) flags (front_of (behind_id (has_bit flags 7) bytes))

-- ---- what is kept

abbrev pub nearest_to : Option ℕ → ℕ → ℕ
nearest_to highest number = extended 65536 highest number

-- a picture begins with the first packet of its lowest layer
abbrev pub begins_picture : SpatialPlace → Bool
begins_picture place = place.begins && place.layer == 0

-- layers above the kept one are left out; the marker is on the last packet of the kept one, and stays where it is
abbrev pub decided : (kept : ℕ) → SpatialPlace → (marker : Bool) → Option Bool
decided kept place marker = if nat_le place.layer kept then Some (marker || (place.ends && place.layer == kept)) else None

abbrev pub new_filter : ℕ → SpatialFilter
new_filter wanted = record { wanted = wanted; kept = 0; before = 0; since = 0; highest = None }

-- of a picture that begins: all that is wanted if it is intra, else no more than before
abbrev pub kept_from : SpatialPlace → SpatialFilter → ℕ
kept_from place s = if place.intra then s.wanted else min s.kept s.wanted

abbrev pub begun : (number : ℕ) → SpatialPlace → SpatialFilter → SpatialFilter
begun number place s =
    if kept_from place s == s.kept then s else record s { before = s.kept; kept = kept_from place s; since = number }

abbrev pub is_late : ℕ → Option ℕ → Bool
is_late number None = false
is_late number (Some highest) = nat_lt number highest

abbrev pub changed : (number : ℕ) → SpatialPlace → SpatialFilter → SpatialFilter
changed number place s =
    if is_late number s.highest then s else
    (if begins_picture place then begun number place (record s { highest = Some number }) else record s { highest = Some number })

abbrev pub after_packet : (number : ℕ) → SpatialPlace → SpatialFilter → SpatialFilter
after_packet number place s = changed (nearest_to s.highest number) place s

abbrev pub kept_at : SpatialFilter → ℕ → ℕ
kept_at s number = if nat_lt number s.since then s.before else s.kept

-- ---- theorems

-- calls of a filter, the latest of which is the first of the list
pub data Call : Type 0 where
  Takes : (number : ℕ) → SpatialPlace → Call
  Wants : (layer : ℕ) → Call

abbrev pub after_call : Call → SpatialFilter → SpatialFilter
after_call (Takes number place) s = after_packet number place s
after_call (Wants layer) s = record s { wanted = layer }

abbrev pub after_calls : (wanted : ℕ) → List Call → SpatialFilter
after_calls wanted [] = new_filter wanted
after_calls wanted (call ∷ calls) = after_call call (after_calls wanted calls)

-- an intra picture began
abbrev pub begins_intra : Call → Bool
begins_intra (Takes number place) = begins_picture place && place.intra
begins_intra (Wants layer) = false

-- since the latest intra picture, or else since the beginning, the layer was kept
abbrev pub IsKeptSinceIntra : (wanted layer : ℕ) → List Call → Type 0
IsKeptSinceIntra wanted layer [] = layer ≤ 0
IsKeptSinceIntra wanted layer (call ∷ calls) =
    (layer ≤ (after_calls wanted (call ∷ calls)).kept) × ((begins_intra call ≡ true) ⊎ IsKeptSinceIntra wanted layer calls)

-- of a layer that is kept, and of those below it, no picture since the latest intra one was left out
abbrev pub KeptLayersAreWhole : Type 0
KeptLayersAreWhole = (wanted layer : ℕ) (calls : List Call) → layer ≤ (after_calls wanted calls).kept → IsKeptSinceIntra wanted layer calls

-- a packet of a picture, and its marker
pub record Part : Type 0 where
  pub place : SpatialPlace
  pub marker : Bool

-- the packets of one layer of a picture: only the last one ends it, and only that one may have the marker
abbrev pub IsLayer : (layer : ℕ) → (marker : Bool) → List Part → Type 0
IsLayer layer marker [] = ⊥
IsLayer layer marker (part ∷ []) = (part.place.layer ≡ layer) × (part.place.ends ≡ true) × (part.marker ≡ marker)
IsLayer layer marker (part ∷ next ∷ parts) =
    (part.place.layer ≡ layer) × (part.place.ends ≡ false) × (part.marker ≡ false) × IsLayer layer marker (next ∷ parts)

-- the layers of a picture from this one on, in order; the last packet of the highest one has the marker
abbrev pub ArePictureFrom : (layer : ℕ) → List (List Part) → Type 0
ArePictureFrom layer [] = ⊥
ArePictureFrom layer (parts ∷ []) = IsLayer layer true parts
ArePictureFrom layer (parts ∷ next ∷ layers) = IsLayer layer false parts × ArePictureFrom (layer + 1) (next ∷ layers)

-- the markers of the packets that are kept
abbrev pub with_decided : Option Bool → List Bool → List Bool
with_decided None markers = markers
with_decided (Some marker) markers = marker ∷ markers

abbrev pub kept_parts : (kept : ℕ) → List Part → List Bool
kept_parts kept [] = []
kept_parts kept (part ∷ parts) = with_decided (decided kept part.place part.marker) (kept_parts kept parts)

abbrev pub kept_markers : (kept : ℕ) → List (List Part) → List Bool
kept_markers kept [] = []
kept_markers kept (parts ∷ layers) = kept_parts kept parts ++ kept_markers kept layers

-- all are clear but the last one, which is this
abbrev pub EndsWith : (last : Bool) → List Bool → Type 0
EndsWith last [] = ⊥
EndsWith last (marker ∷ []) = marker ≡ last
EndsWith last (marker ∷ next ∷ markers) = (marker ≡ false) × EndsWith last (next ∷ markers)

-- whatever layers of a picture are kept, the last packet that is kept has the marker, and no other
abbrev pub OneMarkerEnds : Type 0
OneMarkerEnds = (kept : ℕ) (layers : List (List Part)) → ArePictureFrom 0 layers → EndsWith true (kept_markers kept layers)
