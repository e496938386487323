-- Feedback messages for congestion control in compound RTCP packets (RFC 4585, section 6.1).
use Rattle.std.specs.Prelude.{ℕ, ◌==◌, ◌&&◌, if◌then◌else◌, Bool, List, [], ◌∷◌, filter_map, Option, Some, None, Result, Ok}
use Rattle.std.specs.Int.{w32, from_be_bytes}
use Rattle.codec_payload_rtcp.specs.RtcpPackets.{Feedback, Packet, sender_report, receiver_report, source_description, goodbye, nack, picture_loss, full_intra, other}
use Rattle.codec_payload_rtcp.specs.RtcpReading.{compound_at, packets_left}
use Rattle.codec_payload_rtcp.specs.Steps.{◌>>=◌}
use Rattle.codec_payload_rtcp.specs.declared.packet.RtcpError.{RtcpError}
use Rattle.codec_payload_feedback_transport.specs.declared.messages.Message.{Message}
use Rattle.codec_payload_feedback_transport.specs.declared.messages.MessageKind.{MessageKind}
use Rattle.codec_payload_feedback_transport.specs.declared.messages.MessageKind.TheVariants as kinds

-- a message without its place in memory
abbrev pub feedback_of : Message → Feedback
feedback_of m = record { sender = m.sender_ssrc; media = m.media_ssrc; fci = m.control.now }

-- the packet type: RTPFB or PSFB
abbrev pub type_of_kind : MessageKind → ℕ
type_of_kind kinds.Transport = 205
type_of_kind kinds.Application = 206

-- two SSRCs, and the control information after them
unfoldable pub message_at : List ℕ → Option Feedback
message_at (s3 ∷ s2 ∷ s1 ∷ s0 ∷ m3 ∷ m2 ∷ m1 ∷ m0 ∷ control) =
    Some (record { sender = from_be_bytes w32 (s3 ∷ s2 ∷ s1 ∷ s0 ∷ []); media = from_be_bytes w32 (m3 ∷ m2 ∷ m1 ∷ m0 ∷ []); fci = control })
message_at bytes = None

-- the message of a packet of that type and format 15
abbrev pub message_in : ℕ → Packet → Option Feedback
message_in t (sender_report s) = None
message_in t (receiver_report r) = None
message_in t (source_description cs) = None
message_in t (goodbye g) = None
message_in t (nack f) = None
message_in t (picture_loss f) = None
message_in t (full_intra f) = None
message_in t (other p) = if (p.packet_type == t) && (p.count == 15) then message_at p.body else None

-- the messages of packets, in order
abbrev pub messages_in : ℕ → List Packet → List Feedback
messages_in t packets = filter_map (message_in t) packets

-- the messages of a compound packet, or the first fault of it
abbrev pub messages_at : Bool → ℕ → List ℕ → Result (List Feedback) RtcpError
messages_at full t bytes = compound_at full bytes >>= λ packets. Ok (messages_in t packets)

-- what is left of an iteration
pub record MessagesLeft : Type 0 where
  pub kind : MessageKind
  pub packets : List ℕ

abbrev pub messages_left : MessagesLeft → List Feedback
messages_left s = messages_in (type_of_kind s.kind) (packets_left s.packets)
