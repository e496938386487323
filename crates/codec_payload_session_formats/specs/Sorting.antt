-- Which stream a datagram belongs to: its bytes and the settings decide.
use Rattle.std.specs.Prelude.{ℕ, if◌then◌else◌, false, List, Option, Some, None, Result, Ok, Err}
use Rattle.codec_payload_rtcp.specs.RtcpPackets.{Packet as Report}
use Rattle.codec_payload_rtcp.specs.RtcpReading.{compound_at}
use Rattle.codec_payload_rtcp.specs.declared.packet.RtcpError.{RtcpError}
use Rattle.codec_payload_rtp.specs.RtpPackets.{Packet, is_rtcp}
use Rattle.codec_payload_rtp.specs.RtpReading.{rtp_at}
use Rattle.codec_payload_rtp.specs.declared.rtp.RtpError.{RtpError}
use Rattle.codec_payload_session_formats.specs.Formats.{role_of, stream_of}
use Rattle.codec_payload_session_formats.specs.declared.formats.Role.{Role}
use Rattle.codec_payload_session_formats.specs.declared.formats.Role.TheVariants as roles
use Rattle.codec_payload_session_formats.specs.declared.formats.SessionSettings.{SessionSettings}
use Rattle.codec_payload_session_formats.specs.declared.formats.Format.{Format}
use Rattle.codec_payload_session_formats.specs.declared.sort.SortedPacket.{SortedPacket}
use Rattle.codec_payload_session_formats.specs.declared.sort.SortedPacket.TheVariants as packets

-- a datagram, as a session sees it: a valid compound packet of RTCP; neither RTP nor such a packet; a packet of a payload type that
-- the settings do not name; a retransmission under an unknown SSRC; a packet for the stream with this SSRC and format, which it
-- begins if there is none; a retransmission for the stream with this SSRC and payload type; a packet without media, under this SSRC
pub data Sorted : Type 0 where
  Rtcp : Sorted
  Malformed : Sorted
  Unknown : Sorted
  Unassociated : Sorted
  Media : ℕ → Format → Sorted
  Retransmission : ℕ → ℕ → Sorted
  NoMedia : ℕ → Sorted

-- the same for an RTP packet
abbrev pub sorted_of : SortedPacket → Sorted
sorted_of packets.Unknown = Unknown
sorted_of packets.Unassociated = Unassociated
sorted_of (packets.Media ssrc f) = Media ssrc f
sorted_of (packets.Retransmission ssrc payload_type) = Retransmission ssrc payload_type
sorted_of (packets.NoMedia ssrc) = NoMedia ssrc

-- a retransmission is for the stream of its pair
abbrev pub sorted_retransmission : Option ℕ → ℕ → Sorted
sorted_retransmission None payload_type = Unassociated
sorted_retransmission (Some ssrc) payload_type = Retransmission ssrc payload_type

abbrev pub sorted_by : Role → SessionSettings → ℕ → Sorted
sorted_by (roles.Media f) s ssrc = Media ssrc f
sorted_by (roles.Retransmission f) s ssrc = sorted_retransmission (stream_of ssrc s.pairs.items) f.payload_type
sorted_by roles.NoMedia s ssrc = NoMedia ssrc
sorted_by roles.Unknown s ssrc = Unknown

-- an RTP packet, by its SSRC and payload type
abbrev pub sorted_packet : SessionSettings → ℕ → ℕ → Sorted
sorted_packet s ssrc payload_type = sorted_by (role_of s payload_type) s ssrc

abbrev pub sorted_rtp : SessionSettings → Result Packet RtpError → Sorted
sorted_rtp s (Ok p) = sorted_packet s p.header.ssrc p.header.payload_type
sorted_rtp s (Err e) = Malformed

-- a compound packet counts as a whole or not at all (RFC 3550, appendix A.2); it may be of reduced size (RFC 5506)
abbrev pub sorted_rtcp : Result (List Report) RtcpError → Sorted
sorted_rtcp (Ok packets) = Rtcp
sorted_rtcp (Err e) = Malformed

-- any bytes
abbrev pub sorted_at : SessionSettings → List ℕ → Sorted
sorted_at s bytes = if is_rtcp bytes then sorted_rtcp (compound_at false bytes) else sorted_rtp s (rtp_at bytes)
