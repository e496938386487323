use Rattle.std.proofs.Common.{◌≡◌, ℕ, None, refl, sym}
use Rattle.codec_payload_rtcp.specs.RtcpValues.{packet_of}
use Rattle.codec_payload_rtcp.specs.declared.packet.RtcpPacket.{RtcpPacket}
use Rattle.codec_payload_rtcp.specs.declared.packet.RtcpPacket.TheVariants as lent
use Rattle.codec_payload_rtcp.specs.declared.packet.SenderReport.{SenderReport}
use Rattle.codec_payload_session_stream.specs.Reports.{report_by}
use Rattle.codec_payload_session_stream.proofs.ReportLemmas.{noted_other}
use Rattle.codec_payload_session_stream.proofs.reports.note_packet.Goals as goal

-- another packet is no sender report
no_report : (p : RtcpPacket) → ((r : SenderReport) → p ≡ lent.SenderReport r → ⊥) → (ssrc : ℕ) → report_by ssrc (packet_of p) ≡ None
no_report (lent.SenderReport r) not ssrc = absurd (not r refl)
no_report (lent.ReceiverReport r) not ssrc = refl
no_report (lent.SourceDescription d) not ssrc = refl
no_report (lent.Goodbye g) not ssrc = refl
no_report (lent.Nack f) not ssrc = refl
no_report (lent.PictureLoss f) not ssrc = refl
no_report (lent.FullIntra f) not ssrc = refl
no_report (lent.Other p) not ssrc = refl

pub returns-in_default : goal.returns-in_default
returns-in_default c = sym (noted_other c.args.now (packet_of c.args.packet.now) c.args.streams.now (no_report c.args.packet.now c.in_default.not-SenderReport))
