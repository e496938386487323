use Rattle.std.proofs.Common.{◌∙◌, ap, List, Option, ℕ, Some, slice_set}
use Rattle.std.proofs.lemmas.List.{drop-set-add}
use Rattle.codec_payload_feedback_congestion.proofs.slots.Slots.set.Goals as goal

pub returns : goal.returns
returns c =
    drop-set-add c.self.inside.removed c.self.inside.items.items c.args.place (Some c.args.time)
    ∙ ap (λ (ss : List (Option ℕ)). slice_set ss c.args.place (Some c.args.time)) c.self.view_is
