use Rattle.std.proofs.Common.{◌≡◌, ◌∷◌, ◌∙◌, ap, set, take}
use Rattle.codec_payload_feedback_freezes.specs.Freezes.{noted}
use Rattle.codec_payload_feedback_freezes.proofs.FreezeLemmas.{shifted}
use Rattle.codec_payload_feedback_freezes.proofs.freezes.Freezes.note.Goals as goal

pub returns : goal.returns
returns c =
    let moved : set c.copy_within.new.self 0 c.args.duration ≡ c.args.duration ∷ take 29 c.self.inside.latest =
    ap (λ l. set l 0 c.args.duration) c.copy_within.ensures.after ∙ shifted 29 c.args.duration c.self.inside.latest c.self.told in
    (λ i. record {
      tick_rate = c.self.inside.tick_rate;
      last = c.self.inside.last;
      latest = moved i;
      known = c.min-self-inside.ensures i;
      counts = c.self.inside.counts;
    }) ∙ ap (noted c.args.duration) c.self.view_is
