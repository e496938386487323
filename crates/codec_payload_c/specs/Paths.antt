-- Feedback for a path to a viewer, in a compound RTCP packet.
use Rattle.std.specs.Prelude.{◌≡◌, ℕ, Result, Ok, Err}
use Rattle.codec_payload_bandwidth_path.specs.Paths.{Path}
use Rattle.codec_payload_c_path.specs.Paths.{HearsControl}
use Rattle.codec_payload_rtcp.specs.RtcpPackets.{Feedback}

-- the control information of the message; or the status that refuses the packet, and nothing changes
abbrev pub HearsMessage : Result Feedback ℕ → (now round_trip : ℕ) → Path → ℕ → Path → Type 0
HearsMessage (Ok m) now round_trip r status s = HearsControl m.fci now round_trip r status s
HearsMessage (Err refusal) now round_trip r status s = (status ≡ refusal) × (s ≡ r)
