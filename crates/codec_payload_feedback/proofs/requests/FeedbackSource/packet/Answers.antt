use Rattle.std.proofs.Common.{◌≡◌, ◌∙◌, [], rules, sym}
use Rattle.codec_payload_feedback.proofs.FeedbackLemmas.{all_four}
use Rattle.codec_payload_feedback.proofs.requests.FeedbackSource.packet.Goals as goal

pub returns : goal.returns
returns c =
    let none : c.new-out.result.items ≡ [] = search rules in
    all_four c.args.self.now c.args.media_ssrc c.args.numbers.now c.args.keyframe c.new-out.result.items c.write_report.new.out.items c.write_description.new.out.items
    c.write_nack.new.out.items c.write_keyframe_request.new.out.items none (sym c.has_any.ensures ∙ c.if-not-has_any.false)
    c.in_ok-write_report.ensures c.in_ok-write_description.ensures c.in_ok-write_nack.ensures c.in_ok-write_keyframe_request.ensures
