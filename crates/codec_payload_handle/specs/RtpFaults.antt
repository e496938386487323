-- The statuses for bytes that are not an RTP packet.
use Rattle.std.specs.Prelude.{ℕ}
use Rattle.codec_payload_rtp.specs.declared.rtp.RtpError.{RtpError}
use Rattle.codec_payload_rtp.specs.declared.rtp.RtpError.TheVariants as errors

-- the statuses for bytes that are not an RTP packet
abbrev pub rtp_status : RtpError → ℕ
rtp_status errors.HeaderTooShort = 42
rtp_status errors.WrongVersion = 43
rtp_status errors.CsrcsTooShort = 44
rtp_status errors.ExtensionHeaderTooShort = 45
rtp_status errors.ExtensionTooShort = 46
rtp_status errors.PaddingOfZero = 47
rtp_status errors.PaddingTooLong = 48
