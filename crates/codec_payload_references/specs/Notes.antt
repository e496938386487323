-- The notes of the packets that a receiver holds.
use Rattle.std.specs.Prelude.{◌≡◌, ℕ, ◌+◌, ◌-◌, ◌<◌, ◌≤◌, nat_lt, nat_le, ◌==◌, ◌||◌, Bool, false, List, [], ◌∷◌, length, drop, Option, None, if◌then◌else◌}
use Rattle.codec_payload_keyframes.specs.declared.references.UnitReferences.{UnitReferences}
use Rattle.codec_payload_references.specs.Frames.{Following}
use Rattle.codec_payload_references.specs.FrameNotes.{Note}
use Rattle.codec_payload_references.specs.Units.{AreReadings, differences_after, referring_of}
use Rattle.codec_payload_references.specs.declared.notes.HeldNote.{HeldNote}
use Rattle.codec_payload_references.specs.declared.unit.Reading.{Reading}

-- ---- held notes

pub record Notes : Type 0 where
  -- with rising numbers
  pub held : List HeldNote
  -- for how many more notes there is memory
  pub room : ℕ
  -- the largest number of notes
  pub most : ℕ
  -- what is known of the stream
  pub following : Following
  -- the note of the latest suspect packet, with its sequence number
  pub suspect : Option (ℕ × Note)

abbrev pub AllAbove : ℕ → List HeldNote → Type 0
AllAbove n [] = Unit {0}
AllAbove n (h ∷ hs) = (n < h.number) × AllAbove n hs

abbrev pub HeldRises : List HeldNote → Type 0
HeldRises [] = Unit {0}
HeldRises (h ∷ hs) = AllAbove h.number hs × HeldRises hs

-- the notes with numbers up to n, those above it, those below it, and those from it on, of notes with rising numbers
abbrev pub up_to : ℕ → List HeldNote → List HeldNote
up_to n [] = []
up_to n (h ∷ hs) = if nat_le h.number n then h ∷ up_to n hs else []

abbrev pub above : ℕ → List HeldNote → List HeldNote
above n [] = []
above n (h ∷ hs) = if nat_le h.number n then above n hs else h ∷ hs

abbrev pub below : ℕ → List HeldNote → List HeldNote
below n [] = []
below n (h ∷ hs) = if nat_lt h.number n then h ∷ below n hs else []

abbrev pub from : ℕ → List HeldNote → List HeldNote
from n [] = []
from n (h ∷ hs) = if nat_lt h.number n then from n hs else h ∷ hs

-- a note with this number is held
abbrev pub has_number : ℕ → List HeldNote → Bool
has_number n [] = false
has_number n (h ∷ hs) = (h.number == n) || has_number n hs

-- how many notes have a lower number
abbrev pub place_of : ℕ → List HeldNote → ℕ
place_of n [] = 0
place_of n (h ∷ hs) = if nat_lt h.number n then place_of n hs + 1 else 0

-- the notes with one more at its place in the order of numbers
abbrev pub placed : HeldNote → List HeldNote → List HeldNote
placed x [] = x ∷ []
placed x (h ∷ hs) = if nat_lt h.number x.number then h ∷ placed x hs else x ∷ h ∷ hs

-- the highest notes
abbrev pub highest : ℕ → List HeldNote → List HeldNote
highest most hs = drop (length hs - most) hs

-- with one more note, unless there is one with its number; if there are then too many, without the lowest one
abbrev pub inserted : ℕ → HeldNote → List HeldNote → List HeldNote
inserted most x hs = if has_number x.number hs then hs else highest most (placed x hs)

-- ---- a unit

-- The notes up to last have left, and their descriptors were read in this order. Those from first on are of the unit.
pub record IsTaken (before : Notes) (first last : ℕ) (result : UnitReferences) (after : Notes) : Type 0 where
  pub between : Following
  -- what reading the descriptors of the notes before the unit, and of those of the unit, gives
  pub skipped : List Reading
  pub readings : List Reading
  pub reads_skipped : AreReadings before.following (below first (up_to last before.held)) skipped between
  pub reads_unit : AreReadings between (from first (up_to last before.held)) readings after.following
  pub descriptor : result.descriptor ≡ referring_of readings
  pub differences : result.differences ≡ differences_after None (from first (up_to last before.held))
  pub rest : after.held ≡ above last before.held
  pub room : before.room ≤ after.room
  pub most : after.most ≡ before.most
  pub suspect : after.suspect ≡ before.suspect
