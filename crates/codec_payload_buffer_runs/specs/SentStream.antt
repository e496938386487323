-- The units that a run sends, with their packets.
use Rattle.std.specs.Prelude.{◌≡◌, ℕ, ◌<◌, ◌⊎◌, Bool, true, false, List, [], ◌∷◌, ◌++◌, Option, Some, None, length, map, slice_get}
use Rattle.std.specs.List.{flat_map}
use Rattle.codec_payload_av1.specs.Av1Receiving.{all_received}
use Rattle.codec_payload_base.specs.Pieces.{joined}
use Rattle.codec_payload_codec.specs.Depacketizers.{DepacketizerKind, tail_in}
use Rattle.codec_payload_codec.specs.Packetizers.{PacketizerState}
use Rattle.codec_payload_payloader.specs.Packets.{Packet}
use Rattle.codec_payload_payloader.specs.Sending.{Sample}
use Rattle.codec_payload_buffer_runs.specs.Units.{canonical_units, is_readable, packetizer_after}
use Rattle.codec_payload_buffer_runs.specs.declared.run.Step.{Step}
use Rattle.codec_payload_buffer_runs.specs.declared.run.Step.TheVariants as steps

-- the units of a sample, if there is one
abbrev pub units_of_sample : PacketizerState → ℕ → Option Sample → List (List (List ℕ))
units_of_sample packetizer mtu None = []
units_of_sample packetizer mtu (Some sample) = canonical_units packetizer mtu sample.bytes

abbrev pub packetizer_after_sample : PacketizerState → ℕ → Option Sample → PacketizerState
packetizer_after_sample packetizer mtu None = packetizer
packetizer_after_sample packetizer mtu (Some sample) = packetizer_after packetizer mtu sample.bytes

-- the units that the steps of a run send, in order: determined by the samples and the steps
abbrev pub units_of_run : PacketizerState → List Sample → List Step → List (List (List ℕ))
units_of_run packetizer samples [] = []
units_of_run packetizer samples (steps.Send i mtu ∷ later) =
    units_of_sample packetizer mtu (slice_get samples i) ++ units_of_run (packetizer_after_sample packetizer mtu (slice_get samples i)) samples later
units_of_run packetizer samples (steps.Push k ∷ later) = units_of_run packetizer samples later
units_of_run packetizer samples (steps.Pop ∷ later) = units_of_run packetizer samples later

-- the packets sent for these samples can be read back
abbrev pub AreReadable : PacketizerState → List Sample → Type 0
AreReadable packetizer [] = Unit {0}
AreReadable packetizer (sample ∷ samples) = (is_readable packetizer sample.bytes ≡ true) × AreReadable packetizer samples

-- a unit that was sent, in its parts, with its packets, and the picture id that these carry, if they also carry the id of the base
-- layer
pub record SentUnit : Type 0 where
  pub parts : List (List ℕ)
  pub packets : List Packet
  pub id : Option ℕ

-- the packets of these units
abbrev pub packets_of : List SentUnit → List Packet
packets_of units = flat_map (λ (u : SentUnit). u.packets) units

-- there is a packet, and the last is the only one that ends a unit
abbrev pub EndsWithTail : DepacketizerKind → List Packet → Type 0
EndsWithTail kind [] = ⊥
EndsWithTail kind (p ∷ []) = tail_in kind p.marker p.payload ≡ true
EndsWithTail kind (p ∷ q ∷ ps) = (tail_in kind p.marker p.payload ≡ false) × EndsWithTail kind (q ∷ ps)

-- the packets of each of these units end with their only last packet
abbrev pub AllEndWithTail : DepacketizerKind → List SentUnit → Type 0
AllEndWithTail kind [] = Unit {0}
AllEndWithTail kind (u ∷ us) = EndsWithTail kind u.packets × AllEndWithTail kind us

-- these packets carry exactly these parts, each part whole: an AV1 receiver in any state that gets these packets alone gives them
abbrev pub CarryParts : List Packet → List (List ℕ) → Type 0
CarryParts packets parts = (pending : List ℕ) → (after : List ℕ) × (all_received pending (map (λ (p : Packet). p.payload) packets) ≡ Some (joined parts, after))

-- the bytes are the whole unit, if no packet of it is missing, or else, if it may be split, the unit without exactly the parts that
-- the missing packets carry
abbrev pub IsReleaseOf : Bool → SentUnit → List Packet → List ℕ → Type 0
IsReleaseOf splits u missing bytes =
    ((missing ≡ []) × (bytes ≡ joined u.parts))
    ⊎ ((splits ≡ true) × (0 < length missing) × (lost : List (List ℕ)) × (kept : List (List ℕ)) × (u.parts ≡ lost ++ kept) × (0 < length kept) × (bytes ≡ joined kept)
    × CarryParts missing lost)
