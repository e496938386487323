-- The conditions on the units that each codec sends, so that they can be released as the theorem says.
use Rattle.std.specs.Prelude.{◌≡◌, ℕ, List, [], ◌∷◌, ◌++◌, Result, Ok, MatchResult, Bool, true, map}
use Rattle.codec_payload_base.specs.declared.error.PacketError.{PacketError}
use Rattle.codec_payload_base.specs.declared.error.PacketError.TheVariants as faults
use Rattle.codec_payload_codec.specs.Depacketizers.{DepacketizerState, DepacketizerKind, kind_of_depacketizer, head_in}
use Rattle.codec_payload_buffer.specs.Held.{Held}
use Rattle.codec_payload_buffer.specs.Steps.{Unpacked, Unpacks, nothing_unpacked}
use Rattle.codec_payload_payloader.specs.Packets.{Packet}
use Rattle.codec_payload_buffer_runs.specs.SentStream.{SentUnit, EndsWithTail, IsReleaseOf}
use Rattle.codec_payload_buffer_runs.specs.ReportedIds.{Tells, read_by}

-- the first packet begins a unit
abbrev pub StartsWithHead : DepacketizerKind → List Packet → Type 0
StartsWithHead kind [] = ⊥
StartsWithHead kind (p ∷ ps) = head_in kind p.payload ≡ true

abbrev pub payloads_held : List Held → List (List ℕ)
payloads_held ps = map (λ (p : Held). p.bytes) ps

abbrev pub payloads_sent : List Packet → List (List ℕ)
payloads_sent ps = map (λ (p : Packet). p.payload) ps

-- the condition on each unit that a codec sends. It ends with its only last packet and begins with a first packet. Take its packets
-- from the first, or from a later one that begins a unit, to the last: a depacketizer of this type, in any state, gives the unit or
-- its last parts, and fails only if memory runs out. It reports the picture id that the packets carry
pub record IsLawful (kind : DepacketizerKind) (splits : Bool) (u : SentUnit) : Type 0 where
  pub ends : EndsWithTail kind u.packets
  pub starts : StartsWithHead kind u.packets
  pub gives :
      (missing rest : List Packet) → missing ++ rest ≡ u.packets → StartsWithHead kind rest
      → (ps : List Held) → payloads_held ps ≡ payloads_sent rest
      → (d : DepacketizerState) (answer : Result Unpacked PacketError) (e : DepacketizerState) → kind_of_depacketizer d ≡ kind → Unpacks d ps nothing_unpacked answer e
      → (kind_of_depacketizer e ≡ kind) × MatchResult answer (λ unpacked. IsReleaseOf splits u missing unpacked.bytes) (λ fault. fault ≡ faults.OutOfMemory)
  pub tells :
      (missing rest : List Packet) → missing ++ rest ≡ u.packets → StartsWithHead kind rest
      → (ps : List Held) → payloads_held ps ≡ payloads_sent rest
      → (d : DepacketizerState) (unpacked : Unpacked) (e : DepacketizerState) → kind_of_depacketizer d ≡ kind → Unpacks d ps nothing_unpacked (Ok unpacked) e
      → Tells u.id (read_by d) unpacked.extra (read_by e)

abbrev pub AllLawful : DepacketizerKind → Bool → List SentUnit → Type 0
AllLawful kind splits [] = Unit {0}
AllLawful kind splits (u ∷ us) = IsLawful kind splits u × AllLawful kind splits us
