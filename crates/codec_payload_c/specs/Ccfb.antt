-- Congestion control feedback of RFC 8888 in a compound RTCP packet.
use Rattle.std.specs.Prelude.{◌≡◌, ℕ, List, slice_get, Option, Some, None, Result, Ok, Err}
use Rattle.codec_payload_rtcp.specs.RtcpPackets.{Packet}
use Rattle.codec_payload_rtcp.specs.declared.packet.RtcpError.{RtcpError}
use Rattle.codec_payload_c_packets.specs.Histories.{rtcp_status}
use Rattle.codec_payload_c_path.specs.Ccfb.{IsUnread, Reading, ReadsStream, bodies_in}

-- status 32: there is no feedback with this index
abbrev pub ReadsBody : Option (List ℕ) → (stream : ℕ) → ℕ → Reading → Type 0
ReadsBody (Some body) stream status x = ReadsStream body stream status x
ReadsBody None stream status x = (status ≡ 32) × IsUnread x

-- otherwise the status of the first fault of the compound packet, and nothing is written
abbrev pub ReadsMessage : Result (List Packet) RtcpError → (index stream : ℕ) → ℕ → Reading → Type 0
ReadsMessage (Ok packets) index stream status x = ReadsBody (slice_get (bodies_in packets) index) stream status x
ReadsMessage (Err fault) index stream status x = (status ≡ rtcp_status fault) × IsUnread x
