-- Datagrams that were read.
use Rattle.std.specs.Prelude.{◌≡◌, ℕ, Bool, List, Result}
use Rattle.codec_payload_rtp.specs.RtpPackets.{is_rtcp}
use Rattle.codec_payload_rtp.specs.RtpReading.{rtp_at, told}
use Rattle.codec_payload_rtp.specs.RtpValues.{packet_of}
use Rattle.codec_payload_rtp.specs.declared.rtp.RtpError.{RtpError}
use Rattle.codec_payload_rtp.specs.declared.rtp.RtpPacket.{RtpPacket}

-- what was read is what the bytes say
abbrev pub IsRead : Bool → Result RtpPacket RtpError → List ℕ → Type 0
IsRead rtcp packet bytes = (rtcp ≡ is_rtcp bytes) × (told packet_of packet ≡ rtp_at bytes)
