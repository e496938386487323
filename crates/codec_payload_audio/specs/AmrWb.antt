-- AMR-WB frames and payloads as bits (RFC 4867).
use Rattle.std.specs.Prelude.{◌≡◌, ℕ, ◌-◌, ◌*◌, ◌/◌, ◌%◌, ◌<◌, ◌≤◌, ◌==◌, nat_lt, Bool, true, false, if◌then◌else◌, List, [], ◌∷◌, ◌++◌, length, take, replicate, slice_index_or, Option, Some, None, Result}
use Rattle.std.specs.Int.{div_ceil}
use Rattle.codec_payload_base.specs.declared.error.PacketError.{PacketError}
use Rattle.codec_payload_base.specs.declared.error.PacketError.TheVariants as faults
use Rattle.codec_payload_base.specs.Answers.{AnswersBy}
use Rattle.codec_payload_base.specs.Bits.{bits, bits_of}

abbrev pub bit_of : Bool → ℕ
bit_of false = 0
bit_of true = 1

-- how many speech bits each frame type has; None for a reserved one
abbrev pub speech_sizes : List (Option ℕ)
speech_sizes =
    Some 132 ∷ Some 177 ∷ Some 253 ∷ Some 285 ∷ Some 317 ∷ Some 365 ∷ Some 397 ∷ Some 461 ∷ Some 477 ∷ Some 40 ∷ None ∷ None ∷ None ∷ None ∷ Some 0 ∷ Some 0 ∷ []

abbrev pub speech_size : ℕ → Option ℕ
speech_size kind = slice_index_or speech_sizes kind None

-- the least multiple of 8 that is n or more, less n
abbrev pub gap : ℕ → ℕ
gap n = (8 - n % 8) % 8

-- zeros up to a byte
abbrev pub padded : List ℕ → List ℕ
padded bs = bs ++ replicate (gap (length bs)) 0

pub record Frame : Type 0 where
  pub kind : ℕ
  pub quality : ℕ
  pub speech : List ℕ

-- a frame as there are: its type is not reserved, and it has as many speech bits as that has
pub record IsFrame (f : Frame) : Type 0 where
  pub kind : f.kind < 16
  pub quality : f.quality < 2
  pub size : speech_size f.kind ≡ Some (length f.speech)

-- an entry of the table of contents: no further frame, the type, the quality
abbrev pub entry : Frame → List ℕ
entry f = bits 1 0 ++ bits 4 f.kind ++ bits 1 f.quality

-- the storage form of a frame, with no bit set that means nothing
abbrev pub canonical : Frame → List ℕ
canonical f = padded (entry f ++ bits 2 0 ++ f.speech)

-- the payload of a frame: mode request 15, the entry, the speech bits; if octet-aligned, 4 bits follow the request and 2 the entry
abbrev pub payload : Bool → Frame → List ℕ
payload false f = padded (bits 4 15 ++ entry f ++ f.speech)
payload true f = padded (bits 4 15 ++ bits 4 0 ++ entry f ++ bits 2 0 ++ f.speech)

-- the frame of a first byte and the bytes after it, with n bits of speech
abbrev pub frame_from : ℕ → ℕ → List ℕ → Frame
frame_from first n rest = record { kind = first / 8 % 16; quality = first / 4 % 2; speech = take n (bits_of rest) }

abbrev pub sized : ℕ → List ℕ → Option ℕ → Option Frame
sized first rest None = None
sized first rest (Some n) = if length rest == div_ceil n 8 then Some (frame_from first n rest) else None

-- the frame that bytes store, if their type is not reserved and they are as many as its speech bits need
abbrev pub stored : List ℕ → Option Frame
stored [] = None
stored (b ∷ bs) = sized b bs (speech_size (b / 8 % 16))

-- the layout as the state of a packetizer or depacketizer
abbrev pub layout : Bool → List ℕ
layout false = 0 ∷ []
layout true = 1 ∷ []

-- the type of a frame without data, which is not sent
abbrev pub no_data : ℕ
no_data = 15

-- whether bytes give no packets and no fault: no bytes, and a frame without data
abbrev pub is_without_data : Option Frame → Bool
is_without_data None = false
is_without_data (Some f) = f.kind == no_data

abbrev pub amr_wb_is_skipped : List ℕ → Bool
amr_wb_is_skipped [] = true
amr_wb_is_skipped (b ∷ bs) = is_without_data (stored (b ∷ bs))

-- the fault with which a frame with data is refused, if it is: the bytes store no frame, or its payload is longer than the MTU
abbrev pub refusal_of_frame : Bool → ℕ → Option Frame → Option PacketError
refusal_of_frame octet mtu None = Some faults.ErrAmrWbCorruptedPacket
refusal_of_frame octet mtu (Some f) = if nat_lt (8 * mtu) (length (payload octet f)) then Some faults.ErrPayloadTooLarge else None

-- the fault with which bytes are refused, if they are
abbrev pub amr_wb_refusal : Bool → ℕ → List ℕ → Option PacketError
amr_wb_refusal octet mtu bytes = if amr_wb_is_skipped bytes then None else refusal_of_frame octet mtu (stored bytes)

-- the one packet of a frame
abbrev pub IsPacketOf : Bool → ℕ → Option Frame → List (List ℕ) → Type 0
IsPacketOf octet mtu None packets = ⊥
IsPacketOf octet mtu (Some f) packets = (packet : List ℕ) × (packets ≡ packet ∷ []) × (bits_of packet ≡ payload octet f) × (length packet ≤ mtu)

-- the result for a frame with data
abbrev pub AnswersFrame : Bool → ℕ → Frame → Result (List (List ℕ)) PacketError → Type 0
AnswersFrame octet mtu f answer = AnswersBy false (refusal_of_frame octet mtu (Some f)) (λ packets. IsPacketOf octet mtu (Some f) packets) answer

-- the result of the packetizer
abbrev pub AnswersAmrWb : Bool → ℕ → List ℕ → Result (List (List ℕ)) PacketError → Type 0
AnswersAmrWb octet mtu bytes answer = AnswersBy (amr_wb_is_skipped bytes) (amr_wb_refusal octet mtu bytes) (λ packets. IsPacketOf octet mtu (stored bytes) packets) answer
