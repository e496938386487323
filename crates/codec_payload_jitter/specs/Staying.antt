-- Which numbers can become missing, or stop being missing: above the cutoff those alone that are stored, noted or forgotten.
use Rattle.std.specs.Prelude.{◌≡◌, ◌≢◌, ℕ, false, if◌then◌else◌, List, [], ◌∷◌, Option, Some, None, nat_le, nat_lt, length, Result}
use Rattle.codec_payload_base.specs.declared.error.PacketError.{PacketError}
use Rattle.codec_payload_buffer.specs.Held.{has_number}
use Rattle.codec_payload_metadata.specs.Release.{Release}
use Rattle.codec_payload_buffer.specs.Steps.{IsSound, Pops, State, is_at_most}
use Rattle.codec_payload_jitter.specs.NoMediaNumbers.{is_in, no_media_in, no_media_left, noted_no_media, passed_no_media}
use Rattle.codec_payload_jitter.specs.Receiving.{Arrival, TakesIn}

-- a packet is stored, and one may be evicted
abbrev pub StoreChangesOne : Type 0
StoreChangesOne =
    (rate n m : ℕ) (a : Arrival) (s t : State) → TakesIn rate a n s t → m ≢ n → is_at_most t.cutoff m ≡ false
    → has_number m t.held ≡ has_number m s.held

abbrev pub first_number : List ℕ → Option ℕ
first_number [] = None
first_number (n ∷ ns) = Some n

-- the number that is forgotten if n is noted
abbrev pub forgotten : ℕ → List ℕ → Option ℕ
forgotten n ns = if nat_lt 1024 (length (no_media_in n ns)) then first_number (no_media_in n ns) else None

-- the lowest noted number, if a further one cannot be noted without forgetting it
abbrev pub lowest_if_full : List ℕ → Option ℕ
lowest_if_full ns = if nat_le 1024 (length ns) then first_number ns else None

-- a number without media is noted, and one may be forgotten
abbrev pub NoteChangesTwo : Type 0
NoteChangesTwo = (n m : ℕ) (ns : List ℕ) → m ≢ n → forgotten n ns ≢ Some m → is_in m (noted_no_media n ns) ≡ is_in m ns

-- the cutoff moves past numbers without media, which are forgotten
abbrev pub PassChangesNone : Type 0
PassChangesNone = (m : ℕ) (s : State) (ns : List ℕ) → is_at_most (passed_no_media s ns).cutoff m ≡ false → is_in m (no_media_left s ns) ≡ is_in m ns

-- a pop releases a unit, refuses a frame, or skips frames
abbrev pub PopChangesNone : Type 0
PopChangesNone =
    (m : ℕ) (s t : State) (answer : Option (Result Release PacketError)) → IsSound s → Pops s answer t → is_at_most t.cutoff m ≡ false
    → has_number m t.held ≡ has_number m s.held
