-- Payloads that carry themselves.
use Rattle.std.specs.Prelude.{◌≡◌, ℕ, nat_lt, if◌then◌else◌, false, Option, Some, None, List, [], ◌∷◌, ◌++◌, length, Result, Ok, Err, ⊤}
use Rattle.codec_payload_base.specs.Answers.{AnswersBy, is_empty}
use Rattle.codec_payload_base.specs.declared.interface.CodecExtra.{CodecExtra}
use Rattle.codec_payload_base.specs.declared.error.PacketError.{PacketError}
use Rattle.codec_payload_base.specs.declared.error.PacketError.TheVariants as faults

-- the payload is appended, and the codec-specific data stays; out of memory changes nothing
abbrev pub Appends : List ℕ → List ℕ → CodecExtra → Result ⊤ PacketError → List ℕ → CodecExtra → Type 0
Appends payload out extra (Ok _) out' extra' = (out' ≡ out ++ payload) × (extra' ≡ extra)
Appends payload out extra (Err fault) out' extra' = (fault ≡ faults.OutOfMemory) × (out' ≡ out) × (extra' ≡ extra)

-- the frame is the one packet, whatever it is
abbrev pub AnswersItself : List ℕ → Result (List (List ℕ)) PacketError → Type 0
AnswersItself frame answer = AnswersBy false None (λ packets. packets ≡ frame ∷ []) answer

-- a frame that must fit one packet is refused if it is longer than the MTU
abbrev pub whole_refusal : ℕ → List ℕ → Option PacketError
whole_refusal mtu frame = if nat_lt mtu (length frame) then Some faults.ErrPayloadTooLarge else None

-- the frame is the one packet; an empty one is skipped
abbrev pub AnswersWhole : ℕ → List ℕ → Result (List (List ℕ)) PacketError → Type 0
AnswersWhole mtu frame answer = AnswersBy (is_empty frame) (whole_refusal mtu frame) (λ packets. packets ≡ frame ∷ []) answer

-- the same as for payloads that carry themselves, but an empty one is too short
abbrev pub AppendsSome : List ℕ → List ℕ → CodecExtra → Result ⊤ PacketError → List ℕ → CodecExtra → Type 0
AppendsSome [] out extra answer out' extra' = (answer ≡ Err faults.ErrShortPacket) × (out' ≡ out) × (extra' ≡ extra)
AppendsSome (b ∷ bs) out extra answer out' extra' = Appends (b ∷ bs) out extra answer out' extra'
