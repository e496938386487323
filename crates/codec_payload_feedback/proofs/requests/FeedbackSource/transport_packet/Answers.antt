use Rattle.std.proofs.Common.{◌≡◌, [], ap, subst, rules}
use Rattle.codec_payload_rtcp.specs.RtcpPackets.{Packet}
use Rattle.codec_payload_rtcp.specs.RtcpWriting.{Appends}
use Rattle.codec_payload_feedback_congestion.specs.Packet.{transport_feedback}
use Rattle.codec_payload_feedback.specs.Feedback.{Source}
use Rattle.codec_payload_feedback.proofs.FeedbackLemmas.{all_three}
use Rattle.codec_payload_feedback.proofs.requests.FeedbackSource.transport_packet.Goals as goal

pub returns : goal.returns
returns c =
    let none : c.reserve.new.self.items ≡ [] = search rules in
    let same : transport_feedback c.self.inside.ssrc c.args.media_ssrc c.args.fci.now ≡ transport_feedback c.args.self.now.ssrc c.args.media_ssrc c.args.fci.now =
    ap (λ (s : Source). transport_feedback s.ssrc c.args.media_ssrc c.args.fci.now) c.self.view_is in
    all_three c.args.self.now (transport_feedback c.args.self.now.ssrc c.args.media_ssrc c.args.fci.now) c.reserve.new.self.items c.write_report.new.out.items c.write_description.new.out.items c.write_transport_packet.new.out.items
    none c.in_ok-write_report.ensures c.in_ok-write_description.ensures
    (subst (λ (p : Packet). Appends c.write_description.new.out.items c.write_transport_packet.new.out.items p) same c.in_ok-write_transport_packet.ensures)
