use Rattle.std.proofs.Common.{◌≡◌, ℕ, false, refl, sym}
use Rattle.codec_payload_rtcp.specs.RtcpValues.{packet_of}
use Rattle.codec_payload_rtcp.specs.declared.packet.Goodbye.{Goodbye}
use Rattle.codec_payload_rtcp.specs.declared.packet.RtcpPacket.{RtcpPacket}
use Rattle.codec_payload_rtcp.specs.declared.packet.RtcpPacket.TheVariants as lent
use Rattle.codec_payload_session.specs.Arrivals.{says_goodbye}
use Rattle.codec_payload_session_stream.specs.declared.stream.Ending.TheVariants as endings
use Rattle.codec_payload_session.proofs.GoodbyeLemmas.{left_nobody}
use Rattle.codec_payload_session.proofs.goodbyes.leave_by_packet.Goals as goal

-- another packet names nobody
no_goodbye : (p : RtcpPacket) → ((g : Goodbye) → p ≡ lent.Goodbye g → ⊥) → (ssrc : ℕ) → says_goodbye ssrc (packet_of p) ≡ false
no_goodbye (lent.Goodbye g) not ssrc = absurd (not g refl)
no_goodbye (lent.SenderReport r) not ssrc = refl
no_goodbye (lent.ReceiverReport r) not ssrc = refl
no_goodbye (lent.SourceDescription d) not ssrc = refl
no_goodbye (lent.Nack f) not ssrc = refl
no_goodbye (lent.PictureLoss f) not ssrc = refl
no_goodbye (lent.FullIntra f) not ssrc = refl
no_goodbye (lent.Other p) not ssrc = refl

pub returns-in_default-clause-left : goal.returns-in_default-clause-left
returns-in_default-clause-left c =
    sym (left_nobody (λ ssrc. says_goodbye ssrc (packet_of c.args.packet.now)) endings.Bye c.args.at c.args.streams.now
    (no_goodbye c.args.packet.now c.in_default.not-Goodbye))
