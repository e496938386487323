-- The packets that a buffer holds: a list with rising numbers, so a set with at most one packet for each number.
use Rattle.std.specs.Prelude.{◌≡◌, ℕ, ◌<◌, ◌||◌, Bool, false, List, [], ◌∷◌, nat_lt, ◌==◌, if◌then◌else◌, Option, Some, None}
use Rattle.codec_payload_metadata.specs.declared.meta.RtpMeta.{RtpMeta}
use Rattle.codec_payload_buffer.specs.declared.buffer.held_packet.HeldPacket.{HeldPacket}

-- a held packet: its metadata, its payload, and whether it begins and ends a unit
pub record Held : Type 0 where
  pub meta : RtpMeta
  pub bytes : List ℕ
  pub head : Bool
  pub tail : Bool

-- the packet, without the places of its values in memory
abbrev pub held_of : HeldPacket → Held
held_of p = record { meta = p.packet.value.known; bytes = p.packet.value.bytes.items; head = p.packet.value.head; tail = p.packet.value.tail }

-- its sequence number
abbrev pub number_of : Held → ℕ
number_of p = p.meta.seq_no.0

-- each number is above n
abbrev pub AllAbove : ℕ → List Held → Type 0
AllAbove n [] = Unit {0}
AllAbove n (p ∷ ps) = (n < number_of p) × AllAbove n ps

-- the numbers rise, so no number comes twice
abbrev pub Rises : List Held → Type 0
Rises [] = Unit {0}
Rises (p ∷ ps) = AllAbove (number_of p) ps × Rises ps

-- each number is above the cutoff, if there is one
abbrev pub IsAboveCutoff : Option ℕ → List Held → Type 0
IsAboveCutoff None ps = Unit {0}
IsAboveCutoff (Some c) ps = AllAbove c ps

-- a packet with this number is held
abbrev pub has_number : ℕ → List Held → Bool
has_number n [] = false
has_number n (p ∷ ps) = (number_of p == n) || has_number n ps

-- the packets with p at its place in the order of numbers
abbrev pub placed : Held → List Held → List Held
placed p [] = p ∷ []
placed p (q ∷ qs) = if nat_lt (number_of q) (number_of p) then q ∷ placed p qs else p ∷ q ∷ qs

-- the packets with a number from first to last
abbrev pub between : ℕ → ℕ → List Held → List Held
between first last [] = []
between first last (p ∷ ps) =
    if nat_lt (number_of p) first then between first last ps
    else (if nat_lt last (number_of p) then between first last ps else p ∷ between first last ps)

-- the packets with a number above last
abbrev pub above : ℕ → List Held → List Held
above last [] = []
above last (p ∷ ps) = if nat_lt last (number_of p) then p ∷ above last ps else above last ps

-- the lowest packet, with this number, has left
abbrev pub TakesLowest : List Held → ℕ → List Held → Type 0
TakesLowest [] n new = ⊥
TakesLowest (p ∷ ps) n new = (n ≡ number_of p) × (new ≡ ps)
