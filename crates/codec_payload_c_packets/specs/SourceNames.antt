-- The canonical name of a source, in a compound RTCP packet (RFC 3550, section 6.5.1).
use Rattle.std.specs.Prelude.{◌≡◌, ℕ, ◌==◌, if◌then◌else◌, Bool, List, filter_map, slice_get, Option, Some, None, Result, Ok, Err}
use Rattle.codec_payload_rtcp.specs.RtcpPackets.{Packet, sender_report, receiver_report, source_description, goodbye, nack, picture_loss, full_intra, other}
use Rattle.codec_payload_rtcp.specs.RtcpReading.{compound_at}
use Rattle.codec_payload_rtcp.specs.Sdes.{Chunk}
use Rattle.codec_payload_rtcp.specs.SdesReading.{text_of}
use Rattle.codec_payload_rtcp.specs.declared.packet.RtcpError.{RtcpError}
use Rattle.codec_payload_c_packets.specs.Congestion.{IsUnwritten, PutsPacket}
use Rattle.codec_payload_c_packets.specs.Histories.{rtcp_status}
use Rattle.codec_payload_c_packets.specs.TransportReporters.{Writing}

-- the name that a chunk gives a source: the text of its first item CNAME, if it is of this source
abbrev pub name_of : (ssrc : ℕ) → Chunk → Option (List ℕ)
name_of ssrc c = if c.ssrc == ssrc then text_of 1 c.items else None

-- the first name that chunks give a source
abbrev pub name_among : (ssrc : ℕ) → List Chunk → Option (List ℕ)
name_among ssrc chunks = slice_get (filter_map (name_of ssrc) chunks) 0

-- the same of a packet, if it is a source description
abbrev pub name_in : (ssrc : ℕ) → Packet → Option (List ℕ)
name_in ssrc (sender_report s) = None
name_in ssrc (receiver_report r) = None
name_in ssrc (source_description cs) = name_among ssrc cs
name_in ssrc (goodbye g) = None
name_in ssrc (nack f) = None
name_in ssrc (picture_loss f) = None
name_in ssrc (full_intra f) = None
name_in ssrc (other p) = None

-- the first name that packets give a source
abbrev pub first_name : (ssrc : ℕ) → List Packet → Option (List ℕ)
first_name ssrc packets = slice_get (filter_map (name_in ssrc) packets) 0

abbrev pub name_or_none : Option (List ℕ) → Result (List ℕ) ℕ
name_or_none (Some name) = Ok name
name_or_none None = Err 32

abbrev pub name_from : (ssrc : ℕ) → Result (List Packet) RtcpError → Result (List ℕ) ℕ
name_from ssrc (Ok packets) = name_or_none (first_name ssrc packets)
name_from ssrc (Err fault) = Err (rtcp_status fault)

-- the name of a source in a compound packet; or status 32 if it has none, or the status of the first fault
abbrev pub name_with : (full : Bool) → (ssrc : ℕ) → List ℕ → Result (List ℕ) ℕ
name_with full ssrc rtcp = name_from ssrc (compound_at full rtcp)

-- the name is written, as a packet is; or the status says why there is none, and nothing is written
abbrev pub ReadsName : Result (List ℕ) ℕ → ℕ → Writing → Type 0
ReadsName (Ok name) status w = PutsPacket name status w
ReadsName (Err refusal) status w = (status ≡ refusal) × IsUnwritten w
