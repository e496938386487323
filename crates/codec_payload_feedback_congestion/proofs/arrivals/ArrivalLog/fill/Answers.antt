use Rattle.std.proofs.Common.{◌≡◌, ◌<◌, ◌∙◌, ap, length, arith, List, Option, ℕ, subst, sym}
use Rattle.codec_payload_feedback_congestion.specs.Arrivals.{IsLog, Log}
use Rattle.codec_payload_feedback_congestion.proofs.ArrivalLemmas.{filled_now, is_filled, kept_now}
use Rattle.codec_payload_feedback_congestion.proofs.arrivals.ArrivalLog.fill.Goals as goal

pub invariant_of-self : goal.invariant_of-self
invariant_of-self c =
    let l : Log = record { window = c.self.inside.window; start = c.self.inside.start; slots = c.self.inside.slots; reported = c.self.inside.reported } in
    let within : c.args.index < length c.self.inside.slots = omega (arith, ap (λ (m : Log). length m.slots) c.self.view_is, c.requires) in
    subst (λ (ss : List (Option ℕ)). IsLog (record l { slots = ss; reported = c.min-self-inside.result })) (sym c.set.ensures)
    (is_filled l c.args.index c.args.time c.min-self-inside.result c.min-self-inside.ensures c.self.invariant within (omega arith))

pub returns-then-is_none : goal.returns-then-is_none
returns-then-is_none c =
    let l : Log = record { window = c.self.inside.window; start = c.self.inside.start; slots = c.self.inside.slots; reported = c.self.inside.reported } in
    let within : c.args.index < length c.self.inside.slots = omega (arith, ap (λ (m : Log). length m.slots) c.self.view_is, c.requires) in
    ap (λ (ss : List (Option ℕ)). record l { slots = ss; reported = c.min-self-inside.result }) c.set.ensures
    ∙ filled_now l c.args.self.now c.args.index c.args.time c.min-self-inside.result c.at.result c.is_none.result c.min-self-inside.ensures c.self.view_is within c.at.ensures c.is_none.ensures c.if-is_none.true

pub returns-else-is_none : goal.returns-else-is_none
returns-else-is_none c =
    let l : Log = record { window = c.self.inside.window; start = c.self.inside.start; slots = c.self.inside.slots; reported = c.self.inside.reported } in
    let within : c.args.index < length c.self.inside.slots = omega (arith, ap (λ (m : Log). length m.slots) c.self.view_is, c.requires) in
    kept_now l c.args.self.now c.args.index c.args.time c.at.result c.is_none.result c.self.view_is within c.at.ensures c.is_none.ensures c.if-is_none.false
