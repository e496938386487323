-- What a unit of frames refers to, as sets of numbers.
use Rattle.std.specs.Prelude.{◌≡◌, ℕ, ◌+◌, ◌<◌, ◌≤◌, ◌⊎◌, ◌↔◌, true, List, [], ◌∷◌, Some, None}
use Rattle.std.specs.Int.{bit_at}
use Rattle.codec_payload_keyframes.specs.declared.references.Referring.{Referring}
use Rattle.codec_payload_references.specs.Frames.{Frame, with_frames}

-- the frames with the latest one first
abbrev pub latest_first : List Frame → List Frame → List Frame
latest_first before [] = before
latest_first before (f ∷ fs) = latest_first (f ∷ before) fs

-- of frames with the latest one first: each number is above the number of the frame before
abbrev pub NumbersRise : List Frame → Type 0
NumbersRise [] = Unit {0}
NumbersRise (f ∷ []) = Unit {0}
NumbersRise (f ∷ g ∷ fs) = (g.number < f.number) × NumbersRise (g ∷ fs)

abbrev pub ArePositive : List ℕ → Type 0
ArePositive [] = Unit {0}
ArePositive (r ∷ rs) = (0 < r) × ArePositive rs

-- a frame refers to frames whose numbers are lower
abbrev pub ReferBack : List Frame → Type 0
ReferBack [] = Unit {0}
ReferBack (f ∷ fs) = ArePositive f.descriptor.references × ReferBack fs

abbrev pub HasNumber : ℕ → List ℕ → Type 0
HasNumber n [] = ⊥
HasNumber n (m ∷ ms) = (n ≡ m) ⊎ HasNumber n ms

-- one of the frames is d below this number
abbrev pub HasFrame : ℕ → ℕ → List Frame → Type 0
HasFrame n d [] = ⊥
HasFrame n d (f ∷ fs) = (n ≡ f.number + d) ⊎ HasFrame n d fs

-- one of the frames refers to the frame that is d below this number
abbrev pub RefersTo : ℕ → ℕ → List Frame → Type 0
RefersTo n d [] = ⊥
RefersTo n d (f ∷ fs) = ((r : ℕ) × HasNumber r f.descriptor.references × (n + r ≡ f.number + d)) ⊎ RefersTo n d fs

-- one of the frames refers to a frame that is d below this number, and is not one of them
abbrev pub RefersOut : ℕ → ℕ → List Frame → Type 0
RefersOut n d fs = RefersTo n d fs × (HasFrame n d fs → ⊥)

abbrev pub AreOfBase : List Frame → Type 0
AreOfBase [] = Unit {0}
AreOfBase (f ∷ fs) = (f.descriptor.layer.temporal_id ≡ 0) × AreOfBase fs

abbrev pub IsLatest : ℕ → List Frame → Type 0
IsLatest n [] = ⊥
IsLatest n (f ∷ fs) = n ≡ f.number

pub record IsUnitOf (fs : List Frame) (u : Referring) : Type 0 where
  pub latest : IsLatest u.number fs
  -- bit d, 0 to 127, for its own frames
  pub frames : (d : ℕ) → d < 128 → (bit_at u.frames d ≡ 1) ↔ HasFrame u.number d fs
  -- bit d, 1 to 127, for the frames that it refers to
  pub distances : (d : ℕ) → 0 < d → d < 128 → (bit_at u.distances d ≡ 1) ↔ RefersOut u.number d fs
  -- bit 0 if it refers to a frame that is further back, and only if one of its frames does
  pub far : (d : ℕ) → 128 ≤ d → RefersOut u.number d fs → bit_at u.distances 0 ≡ 1
  pub only_far : bit_at u.distances 0 ≡ 1 → (d : ℕ) × (128 ≤ d) × RefersTo u.number d fs
  pub base : (u.is_base ≡ true) ↔ AreOfBase fs

-- a unit whose frame numbers rise is these sets
abbrev pub UnitsAreSets : Type 0
UnitsAreSets =
    (fs : List Frame) (u : Referring) → NumbersRise (latest_first [] fs) → ReferBack (latest_first [] fs) → with_frames None fs ≡ Some u → IsUnitOf (latest_first [] fs) u
