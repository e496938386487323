-- The latest packets of a stream.
use Rattle.std.specs.Prelude.{◌≡◌, ℕ, ◌≤◌, ◌/◌, ◌%◌, ◌==◌, nat_lt, if◌then◌else◌, List, [], ◌∷◌, length, replicate, slice_set, Option, Some, None}
use Rattle.codec_payload_fec.specs.declared.store.Slot.{Slot}
use Rattle.codec_payload_fec.specs.Strings.{number_of}

-- each packet at its number modulo 512; and the largest packet that is kept, in bytes
pub record Store : Type 0 where
  pub slots : List (Option (List ℕ))
  pub largest : ℕ

-- the packet at a place counts if it came after the store was cleared for the latest time
abbrev pub slot_of : ℕ → Option Slot → Option (List ℕ)
slot_of clears None = None
slot_of clears (Some s) = if s.clears == clears then Some s.packet.items else None

abbrev pub slots_of : ℕ → List (Option Slot) → List (Option (List ℕ))
slots_of clears [] = []
slots_of clears (s ∷ ss) = slot_of clears s ∷ slots_of clears ss

-- no packet came after more clears than there were
abbrev pub AreFormer : ℕ → List (Option Slot) → Type 0
AreFormer clears [] = Unit {0}
AreFormer clears (None ∷ ss) = AreFormer clears ss
AreFormer clears (Some s ∷ ss) = (s.clears ≤ clears) × AreFormer clears ss

abbrev pub IsStored : ℕ → List (Option Slot) → Type 0
IsStored clears ss = (length ss ≡ 512) × AreFormer clears ss

-- places without packets
unfoldable pub no_slots : List (Option (List ℕ))
no_slots = replicate 512 None

abbrev pub no_packets : ℕ → Store
no_packets bytes = record { slots = replicate 512 None; largest = bytes / 512 }

-- a packet replaces the one at its place
abbrev pub kept : List ℕ → Store → Store
kept p s = if nat_lt s.largest (length p) then s else record s { slots = slice_set s.slots (number_of p % 512) (Some p) }
