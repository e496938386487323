use Rattle.std.proofs.Common.{inl, inr, refl, sym, subst, map, List}
use Rattle.std.proofs.lemmas.List.{drop_all, drop_more}
use Rattle.codec_payload_codec.proofs.AnswerLemmas.{on_err}
use Rattle.codec_payload_payloader.specs.Sending.{sample_of}
use Rattle.codec_payload_forward_runs.proofs.SwitchLemmas.{forward_switching}
use Rattle.codec_payload_forward_runs.proofs.SwitchStreams.{write_one_stream}
use Rattle.codec_payload_forward_runs.proofs.SwitchStretchUnits.{release_all_stretches}
use Rattle.codec_payload_forward_runs.proofs.SwitchStretchWalks.{write_stretches}
use Rattle.codec_payload_forward_runs.proofs.SwitchUnitLemmas.{release_switching}
use Rattle.codec_payload_forward_runs.specs.SwitchRuns.{SwitchRuns, SwitchStops, Switched, switched_of}
use Rattle.codec_payload_forward_runs.specs.declared.switch_run.SwitchStep.{SwitchStep}
use Rattle.codec_payload_forward_runs.proofs.switch_run.run_forwarded_switching.Goals as goal

pub loop-step-preserved : goal.loop-step-preserved
loop-step-preserved g c =
    let link = c.loop-step.link in
    let after = c.do_switch_step.new.link in
    let now : Switched = switched_of link.link.sender link.second link.link.forwarder link.link.receiver c.loop-step.run in
    let next : Switched = switched_of after.link.sender after.second after.link.forwarder after.link.receiver c.do_switch_step.new.run in
    record {
      runs = λ t later.
          c.loop-step.invariant.runs t
          (subst (λ (xs : List SwitchStep). SwitchRuns (map sample_of c.args.samples.now) xs now t)
          (sym (drop_more c.args.steps.now c.loop-step.step-index _ c.loop-step-test.true))
          (next, c.in_ok-do_switch_step.ensures.ok, later));
      stops = λ first second forwarder session later.
          c.loop-step.invariant.stops first second forwarder session
          (subst (λ (xs : List SwitchStep). SwitchStops (map sample_of c.args.samples.now) xs now first second forwarder session)
          (sym (drop_more c.args.steps.now c.loop-step.step-index _ c.loop-step-test.true))
          (inr (next, c.in_ok-do_switch_step.ensures.ok, later)));
    }

pub returns-in_err-do_switch_step-clause-stops : goal.returns-in_err-do_switch_step-clause-stops
returns-in_err-do_switch_step-clause-stops g c =
    let link = c.loop-step.link in
    let after = c.do_switch_step.new.link in
    let now : Switched = switched_of link.link.sender link.second link.link.forwarder link.link.receiver c.loop-step.run in
    on_err c.from_residual.result
    (c.loop-step.invariant.stops after.link.sender after.second after.link.forwarder after.link.receiver
    (subst (λ (xs : List SwitchStep). SwitchStops (map sample_of c.args.samples.now) xs now after.link.sender after.second after.link.forwarder after.link.receiver)
    (sym (drop_more c.args.steps.now c.loop-step.step-index _ c.loop-step-test.true))
    (inl c.in_err-do_switch_step.ensures.err)))

-- at the end no step is left
pub returns-clause-forwards : goal.returns-clause-forwards
returns-clause-forwards g c =
    let link = c.loop-step.link in
    let end : Switched = switched_of link.link.sender link.second link.link.forwarder link.link.receiver c.loop-step.run in
    forward_switching (map sample_of c.args.samples.now) c.args.steps.now c.args.link.now.link.sender c.args.link.now.second c.args.link.now.link.forwarder c.args.link.now.link.receiver end
    (c.loop-step.invariant.runs end
    (subst (λ (xs : List SwitchStep). SwitchRuns (map sample_of c.args.samples.now) xs end end) (sym (drop_all c.loop-step.step-index c.args.steps.now c.loop-step-test.false)) refl))

pub returns-clause-stream : goal.returns-clause-stream
returns-clause-stream g c =
    let link = c.loop-step.link in
    let end : Switched = switched_of link.link.sender link.second link.link.forwarder link.link.receiver c.loop-step.run in
    write_one_stream (map sample_of c.args.samples.now) c.args.steps.now c.args.link.now.link.sender c.args.link.now.second c.args.link.now.link.forwarder c.args.link.now.link.receiver end
    (c.loop-step.invariant.runs end
    (subst (λ (xs : List SwitchStep). SwitchRuns (map sample_of c.args.samples.now) xs end end) (sym (drop_all c.loop-step.step-index c.args.steps.now c.loop-step-test.false)) refl))

pub returns-clause-units : goal.returns-clause-units
returns-clause-units g c =
    let link = c.loop-step.link in
    let end : Switched = switched_of link.link.sender link.second link.link.forwarder link.link.receiver c.loop-step.run in
    release_switching (map sample_of c.args.samples.now) c.args.steps.now c.args.link.now.link.sender c.args.link.now.second c.args.link.now.link.forwarder c.args.link.now.link.receiver end
    (c.loop-step.invariant.runs end
    (subst (λ (xs : List SwitchStep). SwitchRuns (map sample_of c.args.samples.now) xs end end) (sym (drop_all c.loop-step.step-index c.args.steps.now c.loop-step-test.false)) refl))

pub returns-clause-stretches : goal.returns-clause-stretches
returns-clause-stretches g c =
    let link = c.loop-step.link in
    let end : Switched = switched_of link.link.sender link.second link.link.forwarder link.link.receiver c.loop-step.run in
    write_stretches (map sample_of c.args.samples.now) c.args.steps.now c.args.link.now.link.sender c.args.link.now.second c.args.link.now.link.forwarder c.args.link.now.link.receiver end
    (c.loop-step.invariant.runs end
    (subst (λ (xs : List SwitchStep). SwitchRuns (map sample_of c.args.samples.now) xs end end) (sym (drop_all c.loop-step.step-index c.args.steps.now c.loop-step-test.false)) refl))

pub returns-clause-units_of_all : goal.returns-clause-units_of_all
returns-clause-units_of_all g c =
    let link = c.loop-step.link in
    let end : Switched = switched_of link.link.sender link.second link.link.forwarder link.link.receiver c.loop-step.run in
    release_all_stretches (map sample_of c.args.samples.now) c.args.steps.now c.args.link.now.link.sender c.args.link.now.second c.args.link.now.link.forwarder c.args.link.now.link.receiver end
    (c.loop-step.invariant.runs end
    (subst (λ (xs : List SwitchStep). SwitchRuns (map sample_of c.args.samples.now) xs end end) (sym (drop_all c.loop-step.step-index c.args.steps.now c.loop-step-test.false)) refl))
