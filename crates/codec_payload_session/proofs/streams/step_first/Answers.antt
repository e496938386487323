use Rattle.std.proofs.Common.{◌≡◌, ◌∙◌, sym, true, false}
use Rattle.codec_payload_session_stream.specs.Turns.{is_nothing}
use Rattle.codec_payload_session_stream.specs.Units.{step_to}
use Rattle.codec_payload_session_stream.proofs.QuietLemmas.{found_in, quiet_in}
use Rattle.codec_payload_session_stream.proofs.UnitLemmas.{nothing_to}
use Rattle.codec_payload_session.proofs.streams.step_first.Goals as goal

pub returns-then-not-is_nothing : goal.returns-then-not-is_nothing
returns-then-not-is_nothing c =
    let tells : is_nothing (step_to c.step-step.result c.step-step.new.unit) ≡ false = nothing_to c.step-step.result c.step-step.new.unit ∙ sym c.is_nothing.ensures ∙ c.if-not-is_nothing.true in
    found_in c.args.now c.args.idle_timeout c.args.streams.now c.loop-place.streams c.loop-place.invariant.0 c.loop-place.place c.index-streams-place.result c.step-step.new.self
    (step_to c.step-step.result c.step-step.new.unit) c.loop-place-test.true c.loop-place.invariant.1 c.loop-place.invariant.2 c.step-step.ensures tells

pub loop-place-preserved : goal.loop-place-preserved
loop-place-preserved c =
    let tells : is_nothing (step_to c.step-step.result c.step-step.new.unit) ≡ true = nothing_to c.step-step.result c.step-step.new.unit ∙ sym c.is_nothing.ensures ∙ c.if-not-is_nothing.false in
    quiet_in c.args.now c.args.idle_timeout c.args.streams.now c.loop-place.streams c.loop-place.invariant.0 c.loop-place.place c.index-streams-place.result c.step-step.new.self
    (step_to c.step-step.result c.step-step.new.unit) c.loop-place-test.true c.loop-place.invariant.1 c.loop-place.invariant.2 c.step-step.ensures tells
