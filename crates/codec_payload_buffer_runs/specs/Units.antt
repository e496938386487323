-- The units of a frame: the bytes that a receiver should get.
use Rattle.std.specs.Prelude.{◌≡◌, ℕ, ◌||◌, not, Bool, true, false, List, [], ◌∷◌, Option, Some, None, is_some, if◌then◌else◌, map, take, refl}
use Rattle.codec_payload_audio.specs.AmrWb.{Frame, amr_wb_is_skipped, amr_wb_refusal, canonical as canonical_frame, stored}
use Rattle.codec_payload_audio.specs.Payloads.{whole_refusal}
use Rattle.codec_payload_base.specs.Answers.{is_empty}
use Rattle.codec_payload_base.specs.Bits.{bytes_of}
use Rattle.codec_payload_base.specs.Described.{described_is_skipped}
use Rattle.codec_payload_base.specs.Pieces.{pieces_are_skipped, pieces_of}
use Rattle.codec_payload_base.specs.declared.error.PacketError.{PacketError}
use Rattle.codec_payload_base.specs.TelephoneReport.{are_reports}
use Rattle.codec_payload_av1.specs.Av1Obu.{Obu, canonical, frame_kept}
use Rattle.codec_payload_av1.specs.Av1Steps.{av1_is_skipped, av1_refusal}
use Rattle.codec_payload_vp8.specs.Vp8Sent.{advanced, header_size}
use Rattle.codec_payload_vp9.specs.Vp9Sent.{advanced as sender_advanced, begun, reserve_in}
use Rattle.codec_payload_codec.specs.Packetizers.{PacketizerState, G711Packetizing, G722Packetizing, OpusPacketizing, NullPacketizing, Vp8Packetizing}
use Rattle.codec_payload_codec.specs.Packetizers.{Vp9Packetizing, ComfortNoisePacketizing, TelePacketizing, Av1Packetizing, AmrWbPacketizing, BoxedPacketizing}

-- whether a frame gives no packets, and no fault
abbrev pub is_skipped : PacketizerState → ℕ → List ℕ → Bool
is_skipped G711Packetizing mtu frame = pieces_are_skipped mtu frame
is_skipped G722Packetizing mtu frame = pieces_are_skipped mtu frame
is_skipped OpusPacketizing mtu frame = pieces_are_skipped mtu frame
is_skipped NullPacketizing mtu frame = false
is_skipped (Vp8Packetizing id) mtu frame = described_is_skipped (header_size id) mtu frame
is_skipped (Vp9Packetizing sender) mtu frame = described_is_skipped (reserve_in sender.mode) mtu frame
is_skipped ComfortNoisePacketizing mtu frame = is_empty frame
is_skipped TelePacketizing mtu frame = is_empty frame
is_skipped Av1Packetizing mtu frame = av1_is_skipped mtu frame
is_skipped (AmrWbPacketizing octet) mtu frame = amr_wb_is_skipped frame
is_skipped BoxedPacketizing mtu frame = false

-- the fault with which a frame that is not skipped is refused, if it is; out of memory is not such a fault
abbrev pub refusal_of : PacketizerState → ℕ → List ℕ → Option PacketError
refusal_of G711Packetizing mtu frame = None
refusal_of G722Packetizing mtu frame = None
refusal_of OpusPacketizing mtu frame = None
refusal_of NullPacketizing mtu frame = None
refusal_of (Vp8Packetizing id) mtu frame = None
refusal_of (Vp9Packetizing sender) mtu frame = None
refusal_of ComfortNoisePacketizing mtu frame = whole_refusal mtu frame
refusal_of TelePacketizing mtu frame = whole_refusal mtu frame
refusal_of Av1Packetizing mtu frame = av1_refusal mtu frame
refusal_of (AmrWbPacketizing octet) mtu frame = amr_wb_refusal octet mtu frame
refusal_of BoxedPacketizing mtu frame = None

-- each of these byte strings is a unit of one part
abbrev pub each_whole : List (List ℕ) → List (List (List ℕ))
each_whole = map (λ bytes. bytes ∷ [])

-- the canonical form of an AMR-WB frame, as bytes
abbrev pub bytes_of_frame : Option Frame → List ℕ
bytes_of_frame None = []
bytes_of_frame (Some f) = bytes_of (canonical_frame f)

-- the kept OBUs in canonical form
abbrev pub canonical_obus : Option (List Obu) → List (List ℕ)
canonical_obus None = []
canonical_obus (Some os) = map canonical os

-- the units of a frame that is sent, each in its parts: of a unit of several parts a receiver may lose the first ones
abbrev pub units_sent : PacketizerState → ℕ → List ℕ → List (List (List ℕ))
units_sent G711Packetizing mtu frame = each_whole (pieces_of mtu frame)
units_sent G722Packetizing mtu frame = each_whole (pieces_of mtu frame)
units_sent OpusPacketizing mtu frame = each_whole (pieces_of mtu frame)
units_sent NullPacketizing mtu frame = each_whole (frame ∷ [])
units_sent (Vp8Packetizing id) mtu frame = each_whole (frame ∷ [])
units_sent (Vp9Packetizing sender) mtu frame = each_whole (frame ∷ [])
units_sent ComfortNoisePacketizing mtu frame = each_whole (frame ∷ [])
units_sent TelePacketizing mtu frame = each_whole (take 4 frame ∷ [])
units_sent Av1Packetizing mtu frame = canonical_obus (frame_kept frame) ∷ []
units_sent (AmrWbPacketizing octet) mtu frame = each_whole (bytes_of_frame (stored frame) ∷ [])
units_sent BoxedPacketizing mtu frame = []

-- none of a frame that is skipped or refused
abbrev pub units_by : Bool → Option PacketError → List (List (List ℕ)) → List (List (List ℕ))
units_by skips refusal units = if skips || is_some refusal then [] else units

-- the units of a frame at an MTU
abbrev pub canonical_units : PacketizerState → ℕ → List ℕ → List (List (List ℕ))
canonical_units packetizer mtu frame = units_by (is_skipped packetizer mtu frame) (refusal_of packetizer mtu frame) (units_sent packetizer mtu frame)

-- the packetizer after a frame that was not refused for memory
abbrev pub packetizer_after : PacketizerState → ℕ → List ℕ → PacketizerState
packetizer_after (Vp8Packetizing id) mtu frame = Vp8Packetizing (advanced (not (is_skipped (Vp8Packetizing id) mtu frame)) id)
packetizer_after (Vp9Packetizing sender) mtu frame = Vp9Packetizing (sender_advanced (not (is_skipped (Vp9Packetizing sender) mtu frame)) (begun sender mtu frame))
packetizer_after packetizer mtu frame = packetizer

-- whether the packets sent for a frame can be read back: for telephone events whole reports, and everything for any other codec
abbrev pub is_readable : PacketizerState → List ℕ → Bool
is_readable TelePacketizing frame = is_empty frame || are_reports frame
is_readable packetizer frame = true

-- Opus at an MTU of 2: three bytes are two units; at an MTU of 0 there are none
pub canonical_units-opus : canonical_units OpusPacketizing 2 (0x90 ∷ 0x90 ∷ 0x90 ∷ []) ≡ ((0x90 ∷ 0x90 ∷ []) ∷ []) ∷ ((0x90 ∷ []) ∷ []) ∷ []
canonical_units-opus = refl

pub canonical_units-mtu_zero : canonical_units OpusPacketizing 0 (0x90 ∷ 0x90 ∷ 0x90 ∷ []) ≡ []
canonical_units-mtu_zero = refl

-- an empty Null frame is one empty unit
pub canonical_units-null : canonical_units NullPacketizing 0 [] ≡ ([] ∷ []) ∷ []
canonical_units-null = refl

-- two telephone reports at an MTU of 8 are one unit, the first of them; at an MTU of 7 they are refused
pub canonical_units-tele : canonical_units TelePacketizing 8 (0x05 ∷ 0x8a ∷ 0x03 ∷ 0x20 ∷ 0x06 ∷ 0x0a ∷ 0x01 ∷ 0x40 ∷ []) ≡ ((0x05 ∷ 0x8a ∷ 0x03 ∷ 0x20 ∷ []) ∷ []) ∷ []
canonical_units-tele = refl

pub canonical_units-tele_refused : canonical_units TelePacketizing 7 (0x05 ∷ 0x8a ∷ 0x03 ∷ 0x20 ∷ 0x06 ∷ 0x0a ∷ 0x01 ∷ 0x40 ∷ []) ≡ []
canonical_units-tele_refused = refl
