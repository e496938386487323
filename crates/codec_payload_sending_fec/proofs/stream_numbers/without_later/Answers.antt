use Rattle.std.proofs.Common.{rules, ◌∙◌, sym, arith}
use Rattle.codec_payload_sending_fec.proofs.NumberLemmas.{later_end, later_here, later_next}
use Rattle.codec_payload_sending_fec.proofs.stream_numbers.without_later.Goals as goal

pub returns-then-number-step : goal.returns-then-number-step
returns-then-number-step c =
    later_here c.args.number c.loop-place.answer c.loop-place.place c.args.steps.now.items c.step_at-step.result (search rules) c.step_at-step.ensures (omega (arith, c.if-number-step.true)) ∙ c.loop-place.invariant

pub loop-place-preserved : goal.loop-place-preserved
loop-place-preserved c =
    later_next c.args.number c.loop-place.answer c.lower-lower.result c.loop-place.place c.args.steps.now.items c.step_at-step.result (search rules) c.step_at-step.ensures (omega (arith, c.if-number-step.false)) c.lower-lower.ensures
    ∙ c.loop-place.invariant

pub returns : goal.returns
returns c = sym (later_end c.args.number c.loop-place.answer c.loop-place.place c.args.steps.now.items (search rules)) ∙ c.loop-place.invariant
