use Rattle.std.proofs.Common.{rules}
use Rattle.codec_payload_feedback.proofs.FeedbackLemmas.{described}
use Rattle.codec_payload_feedback.proofs.requests.FeedbackSource.write_description.Goals as goal

pub returns : goal.returns
returns c =
    described c.write_cname.result c.args.self.now c.self.inside.ssrc c.deref.result.now c.args.out.now.items c.write_cname.new.out.items
    (search rules) (search rules) (search rules) (search rules) c.write_cname.ensures.packet
