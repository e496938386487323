-- Spatial layers that a viewer does not want.
use Rattle.std.specs.Prelude.{◌≡◌, ℕ, Bool, true, false, Option, Some, None}
use Rattle.codec_payload_spatial.specs.declared.spatial.SpatialFilter.{SpatialFilter}
use Rattle.codec_payload_spatial.specs.declared.spatial.SpatialPlace.{SpatialPlace}
use Rattle.codec_payload_c.specs.declared.spatial.SpatialFilterState.{SpatialFilterState}
use Rattle.codec_payload_c.specs.declared.spatial.SpatialPlaceInfo.{SpatialPlaceInfo}

abbrev pub place_of : SpatialPlaceInfo → SpatialPlace
place_of info = record { layer = info.layer; begins = info.begins; ends = info.ends; intra = info.intra }

abbrev pub info_of : SpatialPlace → SpatialPlaceInfo
info_of place = record { layer = place.layer; begins = place.begins; ends = place.ends; intra = place.intra }

-- the place, if the payload names one; otherwise status 32
abbrev pub TellsPlaceOf : Option SpatialPlace → ℕ → (before after : SpatialPlaceInfo) → Type 0
TellsPlaceOf None status before after = (status ≡ 32) × (after ≡ before)
TellsPlaceOf (Some place) status before after = (status ≡ 0) × (after ≡ info_of place)

abbrev pub number_if : Bool → ℕ → Option ℕ
number_if false number = None
number_if true number = Some number

abbrev pub filter_of : SpatialFilterState → SpatialFilter
filter_of s = record { wanted = s.wanted; kept = s.kept; before = s.before; since = s.since; highest = number_if s.has_highest s.highest }

abbrev pub is_there : Option ℕ → Bool
is_there None = false
is_there (Some number) = true

abbrev pub or_zero : Option ℕ → ℕ
or_zero None = 0
or_zero (Some number) = number

abbrev pub state_of : SpatialFilter → SpatialFilterState
state_of f = record { since = f.since; highest = or_zero f.highest; has_highest = is_there f.highest; wanted = f.wanted; kept = f.kept; before = f.before }

-- status 0: the packet is kept, with this marker; 32: it is left out
abbrev pub Keeps : Option Bool → ℕ → (before after : Bool) → Type 0
Keeps None status before after = (status ≡ 32) × (after ≡ before)
Keeps (Some marker) status before after = (status ≡ 0) × (after ≡ marker)
