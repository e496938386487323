-- The packet that a retransmission repeats (RFC 4588, section 4).
use Rattle.std.specs.Prelude.{◌≡◌, ℕ, nat_lt, Bool, true, false, List, [], ◌∷◌, Option, option_map, is_some, Some, None, Ok, Err}
use Rattle.std.specs.Int.{w16, from_be_bytes}
use Rattle.codec_payload_rtp.specs.RtpPackets.{Header, Packet, packet_bytes}
use Rattle.codec_payload_rtp.specs.RtpReading.{rtp_at}
use Rattle.codec_payload_sending_history.specs.declared.original.OriginalError.{OriginalError}
use Rattle.codec_payload_sending_history.specs.declared.original.OriginalError.TheVariants as errors
use Rattle.codec_payload_sending_history.specs.declared.original.OriginalStream.{OriginalStream}

-- the same header with the SSRC and the payload type of the stream, and that number
abbrev pub original_header : OriginalStream → ℕ → Header → Header
original_header stream number h = record h { payload_type = stream.payload_type; sequence_number = number; ssrc = stream.ssrc }

-- the original sequence number in front of the payload of a retransmission, and the payload of the packet
unfoldable pub numbered : List ℕ → Option (ℕ × List ℕ)
numbered (high ∷ low ∷ payload) = Some (from_be_bytes w16 (high ∷ low ∷ []), payload)
numbered payload = None

-- the packet that a retransmission repeats. The padding belongs to the retransmission
abbrev pub original_with : OriginalStream → Header → ℕ × List ℕ → Packet
original_with stream h x = record { header = original_header stream x.0 h; payload = x.1; padding = 0 }

abbrev pub original_of : OriginalStream → Packet → Option Packet
original_of stream p = option_map (original_with stream p.header) (numbered p.payload)

-- the bytes are the packet of the stream that the retransmission repeats
pub record WritesOriginal (stream : OriginalStream) (retransmission bytes : List ℕ) : Type 0 where
  pub packet : Packet
  pub original : Packet
  pub was : rtp_at retransmission ≡ Ok packet
  pub is : original_of stream packet ≡ Some original
  pub bytes_are : bytes ≡ packet_bytes original
  pub reads : rtp_at bytes ≡ Ok original

-- the payload type of the stream is at most 127
abbrev pub type_fits : OriginalStream → Type 0
type_fits stream = nat_lt 127 stream.payload_type ≡ false

-- why no packet is written: the first reason that applies
abbrev pub IsRefused : OriginalStream → List ℕ → OriginalError → Type 0
IsRefused stream retransmission errors.PayloadType = nat_lt 127 stream.payload_type ≡ true
IsRefused stream retransmission (errors.Rtp fault) = type_fits stream × (rtp_at retransmission ≡ Err fault)
IsRefused stream retransmission errors.TooShort = type_fits stream × ((packet : Packet) × (rtp_at retransmission ≡ Ok packet) × (original_of stream packet ≡ None))
IsRefused stream retransmission errors.OutOfMemory =
    type_fits stream × ((packet : Packet) × (rtp_at retransmission ≡ Ok packet) × (is_some (original_of stream packet) ≡ true))
