use Rattle.std.proofs.Common.{◌≡◌, ◌∙◌, arith, false, refl, sym, true}
use Rattle.codec_payload_session_stream.specs.Turns.{is_nothing}
use Rattle.codec_payload_session_stream.specs.Units.{step_to}
use Rattle.codec_payload_session_stream.proofs.UnitLemmas.{nothing_to}
use Rattle.codec_payload_session_stream.proofs.WakingLemmas.{bound_set, fed_steps, fed_within, nothing_steps}
use Rattle.codec_payload_session_stream.proofs.waking.step_excepted.Goals as goal

pub returns-then-place-streams-clause-first : goal.returns-then-place-streams-clause-first
returns-then-place-streams-clause-first c = absurd (omega (arith, c.if-place-streams.true, fed_within c.args.waking.now c.args.now c.args.idle_timeout c.args.streams.now c.requires.bound c.requires.holds))

pub returns-then-is_nothing-clause-first : goal.returns-then-is_nothing-clause-first
returns-then-is_nothing-clause-first c =
    let tells : is_nothing (step_to c.step-step.result c.step-step.new.unit) ≡ true = nothing_to c.step-step.result c.step-step.new.unit ∙ sym c.is_nothing.ensures ∙ c.if-is_nothing.true in
    nothing_steps c.args.waking.now c.args.now c.args.idle_timeout c.index-streams-place.result c.step-step.new.self c.args.streams.now (step_to c.step-step.result c.step-step.new.unit)
    c.requires.bound c.requires.holds c.step-step.ensures tells

pub returns-then-is_nothing-clause-bound : goal.returns-then-is_nothing-clause-bound
returns-then-is_nothing-clause-bound c = bound_set c.args.waking.now c.args.waking.now.fed c.args.streams.now c.step-step.new.self (λ known. refl) c.requires.bound

pub returns-else-is_nothing-clause-first : goal.returns-else-is_nothing-clause-first
returns-else-is_nothing-clause-first c =
    let tells : is_nothing (step_to c.step-step.result c.step-step.new.unit) ≡ false = nothing_to c.step-step.result c.step-step.new.unit ∙ sym c.is_nothing.ensures ∙ c.if-is_nothing.false in
    fed_steps c.args.waking.now c.args.now c.args.idle_timeout c.index-streams-place.result c.step-step.new.self c.args.streams.now (step_to c.step-step.result c.step-step.new.unit)
    c.requires.bound c.requires.holds c.step-step.ensures tells

pub returns-else-is_nothing-clause-bound : goal.returns-else-is_nothing-clause-bound
returns-else-is_nothing-clause-bound c = bound_set c.args.waking.now c.args.waking.now.fed c.args.streams.now c.step-step.new.self (λ known. refl) c.requires.bound
