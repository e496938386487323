use Rattle.std.proofs.Common.{rules, ◌≡◌, ◌∙◌, ap}
use Rattle.codec_payload_feedback_freezes.specs.Freezes.{after_frame}
use Rattle.codec_payload_feedback_freezes.proofs.FreezeLemmas.{follows}
use Rattle.codec_payload_feedback_freezes.proofs.freezes.Freezes.shown.Goals as goal

pub returns-in-Some-clause-follows : goal.returns-in-Some-clause-follows
returns-in-Some-clause-follows c =
    let state : c.count.new.self ≡ after_frame c.args.at.0 c.args.self.now = search rules in
    λ rate times e. state ∙ ap (after_frame c.args.at.0) e ∙ follows rate c.args.at.0 times
