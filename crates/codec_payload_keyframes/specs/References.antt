-- Which units a decoder can show, if each names the frames to which it refers.
use Rattle.std.specs.Prelude.{◌≡◌, ◌≤◌, ◌<◌, ◌==◌, ◌+◌, ◌-◌, ◌*◌, ◌^◌, ◌%◌, ◌&&◌, ◌⊎◌, ℕ, nat_lt, if◌then◌else◌, ◌↔◌, Bool, true, List, [], ◌∷◌, Option, Some, None}
use Rattle.std.specs.Int.{bit_at, leading_zeros}
use Rattle.std.specs.Int.Bits.{bit_and, bit_or}
use Rattle.std.specs.Int.Width.{w128}
use Rattle.codec_payload_base.specs.declared.interface.CodecExtra.{CodecExtra}
use Rattle.codec_payload_base.specs.declared.interface.CodecExtra.TheVariants as extras
use Rattle.codec_payload_keyframes.specs.declared.references.References.{References}
use Rattle.codec_payload_keyframes.specs.declared.references.Referring.{Referring}
use Rattle.codec_payload_keyframes.specs.declared.references.UnitReferences.{UnitReferences}

-- ---- what a unit says

-- it has no dependency descriptor and no P_DIFFs
abbrev pub no_references : UnitReferences
no_references = record { descriptor = None; differences = None }

-- temporal layer 0, or no layer
abbrev pub is_base_layer : Option ℕ → Bool
is_base_layer None = true
is_base_layer (Some tid) = tid == 0

abbrev pub picture_with : Option ℕ → Option ℕ → Option ℕ → Option Referring
picture_with tid (Some id) (Some differences) = Some (record { number = id; frames = 1; distances = differences; is_base = is_base_layer tid })
picture_with tid (Some id) None = None
picture_with tid None differences = None

-- a unit of VP9 with a picture id and these P_DIFFs: one frame under its picture id
abbrev pub picture_by_differences : CodecExtra → Option ℕ → Option Referring
picture_by_differences (extras.Vp9 v) differences = picture_with v.tid v.picture_id differences
picture_by_differences _ differences = None

-- ---- what was released

-- a unit that was released, and whether it was reported as one that can be shown
pub record Reported : Type 0 where
  pub unit : Referring
  pub shown : Bool

-- since this keyframe, the latest first
abbrev pub latest_number : Referring → List Reported → ℕ
latest_number key [] = key.number
latest_number key (r ∷ rs) = r.unit.number

abbrev pub NumbersRise : Referring → List Reported → Type 0
NumbersRise key [] = Unit {0}
NumbersRise key (r ∷ rs) = (latest_number key rs < r.unit.number) × NumbersRise key rs

-- the frame whose number is less than n by d is a frame of u
abbrev pub HasFrame : ℕ → ℕ → Referring → Type 0
HasFrame n d u = (n ≤ u.number + d) × (bit_at u.frames (u.number + d - n) ≡ 1)

-- the number that is less than n by d is below all frames of u
abbrev pub IsBelow : ℕ → ℕ → Referring → Type 0
IsBelow n d u = (n ≤ u.number + d) × (u.frames < 2 ^ (u.number + d - n))

-- the frame whose number is less than n by d was released in a unit that can be shown. A keyframe replaces all frames before it, so a
-- number below its frames stands for it
abbrev pub IsShownAt : ℕ → ℕ → Referring → List Reported → Type 0
IsShownAt n d key [] = HasFrame n d key ⊎ IsBelow n d key
IsShownAt n d key (r ∷ rs) = (HasFrame n d r.unit × (r.shown ≡ true)) ⊎ IsShownAt n d key rs

-- the numbers rise, and each frame to which u refers was released in a unit that can be shown
pub record HasReferences (key : Referring) (later : List Reported) (u : Referring) : Type 0 where
  pub rise : NumbersRise key later
  pub above : latest_number key later < u.number
  pub references : (d : ℕ) → d < 128 → bit_at u.distances d ≡ 1 → IsShownAt u.number d key later

-- ---- steps

-- bit d: all of these frames are less by fewer than d
abbrev pub lower_numbers : ℕ → ℕ
lower_numbers frames = if nat_lt frames (2 ^ 128) then 2 ^ 128 - 2 ^ (128 - leading_zeros w128 frames) else 0

abbrev pub after_key_frames : Referring → References
after_key_frames key = record { last = key.number; shown = bit_or key.frames (lower_numbers key.frames); rises = true }

abbrev pub moved_on : ℕ → ℕ → ℕ
moved_on shown gap = if nat_lt gap 128 then shown * 2 ^ gap % 2 ^ 128 else 0

abbrev pub shows_referring : References → Referring → Bool
shows_referring s u = s.rises && (nat_lt s.last u.number && (bit_and u.distances (2 ^ 128 - 1 - moved_on s.shown (u.number - s.last)) == 0))

-- the frames before u, as u sees them
abbrev pub seen_from : References → Referring → ℕ
seen_from s u = if nat_lt s.last u.number then moved_on s.shown (u.number - s.last) else 0

abbrev pub with_frames : References → Referring → Bool → References
with_frames s u shown = record {
  last = u.number;
  shown = if shown then bit_or (seen_from s u) u.frames else seen_from s u;
  rises = s.rises && nat_lt s.last u.number;
}

-- ---- whole streams

-- units that are released after this keyframe, the latest first, each with what is reported of it
pub data ReferenceRun (key : Referring) : List Reported → References → Type 0 where
  begins : ReferenceRun key [] (after_key_frames key)
  releases : {later : List Reported} {s : References} (u : Referring) → ReferenceRun key later s
      → ReferenceRun key (record { unit = u; shown = shows_referring s u } ∷ later) (with_frames s u (shows_referring s u))

-- a unit is reported as one that can be shown exactly if its numbers rise, and each frame to which it refers is shown
abbrev pub FollowsReferences : Type 0
FollowsReferences =
    (key : Referring) (later : List Reported) (s : References) (u : Referring) → ReferenceRun key later s → (shows_referring s u ≡ true) ↔ HasReferences key later u
