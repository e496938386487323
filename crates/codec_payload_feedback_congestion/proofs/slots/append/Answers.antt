use Rattle.std.proofs.Common.{◌≡◌, ◌++◌, ◌+◌, ◌-◌, take, replicate, length, Option, ℕ, Some, None, List, ap, ◌∙◌, arith, rules, refl, slice_set}
use Rattle.codec_payload_feedback_congestion.proofs.ArrivalLemmas.{append_is}
use Rattle.codec_payload_feedback_congestion.proofs.slots.append.Goals as goal

pub returns-clause-ok : goal.returns-clause-ok
returns-clause-ok c =
    let last : ℕ = c.len.result + c.args.gap in
    let made : c.resize.new.self.items ≡ take (last + 1) c.args.slots.now.items ++ replicate (last + 1 - length c.args.slots.now.items) None = search rules in
    ap (λ (t : List (Option ℕ)). slice_set t last (Some c.args.time)) made ∙ append_is c.args.slots.now.items c.args.gap last (last + 1) (Some c.args.time) (omega arith) refl
