use Rattle.std.proofs.Common.{inl, inr, refl, sym, subst, map, List}
use Rattle.std.proofs.lemmas.List.{drop_all, drop_more}
use Rattle.codec_payload_codec.proofs.AnswerLemmas.{on_err}
use Rattle.codec_payload_payloader.specs.Sending.{sample_of}
use Rattle.codec_payload_forward_runs.proofs.LeaveLemmas.{forward_leaving_out, release_leaving_out}
use Rattle.codec_payload_forward_runs.specs.ForwardRuns.{Hops, hops_of}
use Rattle.codec_payload_forward_runs.specs.LeaveRuns.{LeaveRuns, LeaveStops}
use Rattle.codec_payload_forward_runs.specs.declared.leave_run.LeaveStep.{LeaveStep}
use Rattle.codec_payload_forward_runs.proofs.leave_run.run_forwarded_leaving_out.Goals as goal

pub loop-step-preserved : goal.loop-step-preserved
loop-step-preserved g c =
    let now : Hops = hops_of c.loop-step.link.sender c.loop-step.link.forwarder c.loop-step.link.receiver c.loop-step.run in
    let next : Hops = hops_of c.do_leave_step.new.link.sender c.do_leave_step.new.link.forwarder c.do_leave_step.new.link.receiver c.do_leave_step.new.run in
    record {
      runs = λ t later.
          c.loop-step.invariant.runs t
          (subst (λ (xs : List LeaveStep). LeaveRuns (map sample_of c.args.samples.now) xs now t)
          (sym (drop_more c.args.steps.now c.loop-step.step-index _ c.loop-step-test.true))
          (next, c.in_ok-do_leave_step.ensures.ok, later));
      stops = λ sending forwarder session later.
          c.loop-step.invariant.stops sending forwarder session
          (subst (λ (xs : List LeaveStep). LeaveStops (map sample_of c.args.samples.now) xs now sending forwarder session)
          (sym (drop_more c.args.steps.now c.loop-step.step-index _ c.loop-step-test.true))
          (inr (next, c.in_ok-do_leave_step.ensures.ok, later)));
    }

pub returns-in_err-do_leave_step-clause-stops : goal.returns-in_err-do_leave_step-clause-stops
returns-in_err-do_leave_step-clause-stops g c =
    let now : Hops = hops_of c.loop-step.link.sender c.loop-step.link.forwarder c.loop-step.link.receiver c.loop-step.run in
    let link = c.do_leave_step.new.link in
    on_err c.from_residual.result
    (c.loop-step.invariant.stops link.sender link.forwarder link.receiver
    (subst (λ (xs : List LeaveStep). LeaveStops (map sample_of c.args.samples.now) xs now link.sender link.forwarder link.receiver)
    (sym (drop_more c.args.steps.now c.loop-step.step-index _ c.loop-step-test.true))
    (inl c.in_err-do_leave_step.ensures.err)))

-- at the end no step is left
pub returns-clause-forwards : goal.returns-clause-forwards
returns-clause-forwards g c =
    let end : Hops = hops_of c.loop-step.link.sender c.loop-step.link.forwarder c.loop-step.link.receiver c.loop-step.run in
    forward_leaving_out (map sample_of c.args.samples.now) c.args.steps.now c.args.link.now.sender c.args.link.now.forwarder c.args.link.now.receiver end
    (c.loop-step.invariant.runs end
    (subst (λ (xs : List LeaveStep). LeaveRuns (map sample_of c.args.samples.now) xs end end) (sym (drop_all c.loop-step.step-index c.args.steps.now c.loop-step-test.false)) refl))

pub returns-clause-units : goal.returns-clause-units
returns-clause-units g c =
    let end : Hops = hops_of c.loop-step.link.sender c.loop-step.link.forwarder c.loop-step.link.receiver c.loop-step.run in
    release_leaving_out (map sample_of c.args.samples.now) c.args.steps.now c.args.link.now.sender c.args.link.now.forwarder c.args.link.now.receiver end
    (c.loop-step.invariant.runs end
    (subst (λ (xs : List LeaveStep). LeaveRuns (map sample_of c.args.samples.now) xs end end) (sym (drop_all c.loop-step.step-index c.args.steps.now c.loop-step-test.false)) refl))
