-- Feedback for congestion control as packets of RTCP.
use Rattle.std.specs.Prelude.{ℕ, List, []}
use Rattle.codec_payload_rtcp.specs.RtcpPackets.{Packet, feedback_bytes, other}
use Rattle.codec_payload_rtcp.specs.RtcpWriting.{Appends}
use Rattle.codec_payload_feedback_congestion.specs.Remb.{AppendsRemb}

-- a packet of feedback of this type, format 15
abbrev pub feedback_of : ℕ → ℕ → ℕ → List ℕ → Packet
feedback_of packet_type sender media fci = other (record { packet_type = packet_type; count = 15; body = feedback_bytes (record { sender = sender; media = media; fci = fci }) })

-- feedback of the transport layer: type 205
abbrev pub transport_feedback : ℕ → ℕ → List ℕ → Packet
transport_feedback sender media fci = feedback_of 205 sender media fci

-- new is old with a packet of REMB about these sources at its end: type 206, with the media SSRC 0
abbrev pub AppendsRembPacket : List ℕ → List ℕ → ℕ → ℕ → List ℕ → Type 0
AppendsRembPacket old new sender bitrate ssrcs = (fci : List ℕ) × AppendsRemb [] fci bitrate ssrcs × Appends old new (feedback_of 206 sender 0 fci)
