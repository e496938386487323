-- What the notes of a unit say of the frames that it refers to.
use Rattle.std.specs.Prelude.{◌≡◌, ℕ, Bool, true, false, List, [], ◌∷◌, ◌||◌, Option, Some, None, if◌then◌else◌}
use Rattle.std.specs.Int.Bits.{bit_or}
use Rattle.codec_payload_keyframes.specs.declared.references.Referring.{Referring}
use Rattle.codec_payload_keyframes.specs.declared.references.UnitReferences.{UnitReferences}
use Rattle.codec_payload_references.specs.Frames.{Following, Frame, IsRead, bit_of, with_frame, with_frames}
use Rattle.codec_payload_references.specs.declared.layer_frame.LayerFrame.{LayerFrame}
use Rattle.codec_payload_references.specs.declared.notes.HeldNote.{HeldNote}
use Rattle.codec_payload_references.specs.declared.unit.Reading.{Reading}
use Rattle.codec_payload_references.specs.declared.unit.Reading.TheVariants as readings
use Rattle.codec_payload_references.specs.declared.unit.UnitSoFar.{UnitSoFar}

-- ---- reading

-- what reading the descriptor of a note gives, and what is known of the stream after it
abbrev pub IsReading : Following → Option (List ℕ) → Reading → Following → Type 0
IsReading before None readings.Absent after = after ≡ before
IsReading before None readings.Unread after = ⊥
IsReading before None (readings.Frame n d) after = ⊥
IsReading before (Some bytes) readings.Absent after = ⊥
IsReading before (Some bytes) readings.Unread after = IsRead before bytes None after
IsReading before (Some bytes) (readings.Frame n d) after = IsRead before bytes (Some d) after × (n ≡ after.latest)

-- what reading the descriptors of notes gives, one after the other
abbrev pub AreReadings : Following → List HeldNote → List Reading → Following → Type 0
AreReadings before [] [] after = after ≡ before
AreReadings before [] (x ∷ xs) after = ⊥
AreReadings before (h ∷ hs) [] after = ⊥
AreReadings before (h ∷ hs) (x ∷ xs) after = (between : Following) × IsReading before h.note.descriptor x between × AreReadings between hs xs after

-- ---- dependency descriptors

abbrev pub is_unread : Reading → Bool
is_unread readings.Absent = false
is_unread readings.Unread = true
is_unread (readings.Frame n d) = false

abbrev pub is_any_unread : List Reading → Bool
is_any_unread [] = false
is_any_unread (x ∷ xs) = is_unread x || is_any_unread xs

abbrev pub with_frame_of : Reading → List Frame → List Frame
with_frame_of readings.Absent fs = fs
with_frame_of readings.Unread fs = fs
with_frame_of (readings.Frame n d) fs = record { number = n; descriptor = d } ∷ fs

-- the frames whose descriptors were read
abbrev pub frames_of : List Reading → List Frame
frames_of [] = []
frames_of (x ∷ xs) = with_frame_of x (frames_of xs)

-- the frames that a unit refers to by its descriptors: none if it has none, or one was not read
abbrev pub referring_of : List Reading → Option Referring
referring_of xs = if is_any_unread xs then None else with_frames None (frames_of xs)

-- ---- VP9

abbrev pub with_layer_frame : Option ℕ → LayerFrame → ℕ
with_layer_frame None l = bit_or l.differences (bit_of l.needs_lower_layer)
with_layer_frame (Some differences) l = bit_or differences l.differences

abbrev pub with_layer_frame_if : Option ℕ → Option LayerFrame → Option ℕ
with_layer_frame_if differences None = differences
with_layer_frame_if differences (Some l) = Some (with_layer_frame differences l)

-- the P_DIFFs of all layer frames; bit 0 also if the first one refers to a lower layer
abbrev pub differences_after : Option ℕ → List HeldNote → Option ℕ
differences_after differences [] = differences
differences_after differences (h ∷ hs) = differences_after (with_layer_frame_if differences h.note.layer_frame) hs

-- ---- one note after the other

abbrev pub frames_with : Option Referring → Reading → Option Referring
frames_with u readings.Absent = u
frames_with u readings.Unread = u
frames_with u (readings.Frame n d) = Some (with_frame u n d)

abbrev pub with_reading : UnitSoFar → Option LayerFrame → Reading → UnitSoFar
with_reading u l x = record { frames = frames_with u.frames x; is_unread = u.is_unread || is_unread x; differences = with_layer_frame_if u.differences l }

abbrev pub references_so_far : UnitSoFar → UnitReferences
references_so_far u = record { descriptor = if u.is_unread then None else u.frames; differences = u.differences }

abbrev pub Collects : UnitSoFar → Following → List HeldNote → UnitSoFar → Following → Type 0
Collects u r [] v s = (v ≡ u) × (s ≡ r)
Collects u r (h ∷ hs) v s = (x : Reading) × (between : Following) × IsReading r h.note.descriptor x between × Collects (with_reading u h.note.layer_frame x) between hs v s

-- descriptors of notes are read, whatever they say
abbrev pub Skips : Following → List HeldNote → Following → Type 0
Skips before hs after = (xs : List Reading) × AreReadings before hs xs after
