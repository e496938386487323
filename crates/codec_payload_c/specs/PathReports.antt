-- Packets that feedback for a path to a viewer reports lost, in a compound RTCP packet.
use Rattle.std.specs.Prelude.{◌≡◌, ℕ, Result, Ok, Err}
use Rattle.codec_payload_bandwidth_path.specs.Paths.{Path}
use Rattle.codec_payload_c_path.specs.PathReports.{NamesLost}
use Rattle.codec_payload_c_path.specs.Writing.{IsUnwritten, Writing}
use Rattle.codec_payload_rtcp.specs.RtcpPackets.{Feedback}

-- by the control information of the message; or the status that refuses the packet, and nothing is written
abbrev pub NamesMessage : Result Feedback ℕ → Path → ℕ → Writing → Type 0
NamesMessage (Ok m) r status w = NamesLost m.fci r status w
NamesMessage (Err refusal) r status w = (status ≡ refusal) × IsUnwritten w
