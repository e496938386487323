-- RTP packets by places in the bytes of a datagram.
use Rattle.std.specs.Prelude.{◌≡◌, ℕ, ◌+◌, ◌/◌, List, drop, take, length, true, false, Option, Some, None, Result, Ok, Err}
use Rattle.codec_payload_rtp.specs.RtpPackets.{Extension, Packet}
use Rattle.codec_payload_rtp.specs.declared.rtp.RtpError.{RtpError}
use Rattle.codec_payload_c_packets.specs.declared.rtp.ExtensionPlace.{ExtensionPlace}
use Rattle.codec_payload_c_packets.specs.declared.rtp.RtpInfo.{RtpInfo}
use Rattle.codec_payload_handle.specs.RtpFaults.{rtp_status}

-- an extension is after the CSRCs, and its bytes are after its own header of four bytes; without an extension all fields are 0
abbrev pub place_of : ℕ → Option Extension → ExtensionPlace
place_of csrcs None = record { there = false; profile = 0; at = 0; len = 0 }
place_of csrcs (Some e) = record { there = true; profile = e.profile; at = 16 + csrcs; len = length e.bytes }

-- the description of the extension
abbrev pub place_told : RtpInfo → ExtensionPlace
place_told c = record { there = c.has_extension; profile = c.extension_profile; at = c.extension_at; len = c.extension_len }

-- the description of a packet
pub record TellsRtp (bytes : List ℕ) (p : Packet) (c : RtpInfo) : Type 0 where
  pub payload_len : c.payload_len ≡ length p.payload
  pub payload : take c.payload_len (drop c.payload_at bytes) ≡ p.payload
  pub padding : c.padding ≡ p.padding
  pub whole : c.payload_at + c.payload_len + c.padding ≡ length bytes
  pub timestamp : c.timestamp ≡ p.header.timestamp
  pub ssrc : c.ssrc ≡ p.header.ssrc
  pub sequence_number : c.sequence_number ≡ p.header.sequence_number
  pub payload_type : c.payload_type ≡ p.header.payload_type
  pub csrc_count : c.csrc_count ≡ length p.header.csrcs / 4
  pub marker : c.marker ≡ p.header.marker
  pub extension : place_told c ≡ place_of (length p.header.csrcs) p.header.extension

-- the answer for bytes with this result
abbrev pub ReadsRtp : List ℕ → Result Packet RtpError → ℕ → (before after : RtpInfo) → Type 0
ReadsRtp bytes (Ok p) status before after = (status ≡ 0) × TellsRtp bytes p after
ReadsRtp bytes (Err e) status before after = (status ≡ rtp_status e) × (after ≡ before)
