use Rattle.std.proofs.Common.{◌∙◌, ◌∷◌, ◌+◌, ap, drop, inl, inr, refl, sym, subst, map, List}
use Rattle.std.proofs.lemmas.List.{drop_all, drop_more}
use Rattle.codec_payload_codec.proofs.AnswerLemmas.{on_err}
use Rattle.codec_payload_payloader.specs.Sending.{sample_of}
use Rattle.codec_payload_sending_history.specs.declared.original.OriginalStream.{OriginalStream}
use Rattle.codec_payload_forward_runs.specs.ForwardRuns.{Hops}
use Rattle.codec_payload_server_runs.proofs.ServedLeavingReleases.{packets_served_leaving_out, release_served_leaving_out, served_leaving_session}
use Rattle.codec_payload_server_runs.specs.ServeLeaveRuns.{DoesServeLeaveStep, Left, ServeLeaveRuns, ServeLeaveStops, ServeLeaveStopsAt, left_by, serving_of}
use Rattle.codec_payload_server_runs.specs.Serving.{Serving}
use Rattle.codec_payload_server_runs.specs.declared.leave_run.ServeLeaveStep.{ServeLeaveStep}
use Rattle.codec_payload_server_runs.proofs.leave_run.run_served_leaving_out.Goals as goal

pub loop-step-preserved : goal.loop-step-preserved
loop-step-preserved g c =
    let stream : OriginalStream = c.args.link.now.stream in
    let samples = map sample_of c.args.samples.now in
    let was = c.loop-step.link in
    let left = c.do_serve_leave_step.new.link in
    let now : Serving Hops = serving_of was.link.sender was.link.forwarder was.link.receiver was.session c.loop-step.run in
    let next : Serving Hops = serving_of left.link.sender left.link.forwarder left.link.receiver left.session c.do_serve_leave_step.new.run in
    let does = subst (λ (x : OriginalStream). DoesServeLeaveStep x samples c.step-item.result now next) c.loop-step.invariant.stream c.in_ok-do_serve_leave_step.ensures.ok in
    let head = drop_more c.args.steps.now c.loop-step.step-index c.step-item.result c.loop-step-test.true
    ∙ ap (λ (x : ServeLeaveStep). x ∷ drop (c.loop-step.step-index + 1) c.args.steps.now) (sym c.step-item.is) in
    record {
      stream = c.do_serve_leave_step.ensures.stream ∙ c.loop-step.invariant.stream;
      runs = λ t later. c.loop-step.invariant.runs t (subst (λ (xs : List ServeLeaveStep). ServeLeaveRuns stream samples xs now t) (sym head) (next, does, later));
      stops = λ end server later.
          c.loop-step.invariant.stops end server (subst (λ (xs : List ServeLeaveStep). ServeLeaveStops stream samples xs now end server) (sym head) (inr (next, does, later)));
    }

pub returns-in_err-do_serve_leave_step-clause-stops : goal.returns-in_err-do_serve_leave_step-clause-stops
returns-in_err-do_serve_leave_step-clause-stops g c =
    let stream : OriginalStream = c.args.link.now.stream in
    let samples = map sample_of c.args.samples.now in
    let was = c.loop-step.link in
    let left = c.do_serve_leave_step.new.link in
    let now : Serving Hops = serving_of was.link.sender was.link.forwarder was.link.receiver was.session c.loop-step.run in
    let end : Left = left_by left.link.sender left.link.forwarder left.link.receiver in
    let stops =
    subst (λ (x : OriginalStream). ServeLeaveStopsAt x samples c.step-item.result now end left.session) c.loop-step.invariant.stream c.in_err-do_serve_leave_step.ensures.err in
    let head = drop_more c.args.steps.now c.loop-step.step-index c.step-item.result c.loop-step-test.true
    ∙ ap (λ (x : ServeLeaveStep). x ∷ drop (c.loop-step.step-index + 1) c.args.steps.now) (sym c.step-item.is) in
    on_err c.from_residual.result
    (c.loop-step.invariant.stops end left.session (subst (λ (xs : List ServeLeaveStep). ServeLeaveStops stream samples xs now end left.session) (sym head) (inl stops)))

-- at the end no step is left
pub returns-clause-session : goal.returns-clause-session
returns-clause-session g c =
    let link = c.args.link.now in
    let was = c.loop-step.link in
    let samples = map sample_of c.args.samples.now in
    let end : Serving Hops = serving_of was.link.sender was.link.forwarder was.link.receiver was.session c.loop-step.run in
    served_leaving_session link.stream samples c.args.steps.now link.link.sender link.link.forwarder link.link.receiver link.session end
    (c.loop-step.invariant.runs end
    (subst (λ (xs : List ServeLeaveStep). ServeLeaveRuns link.stream samples xs end end) (sym (drop_all c.loop-step.step-index c.args.steps.now c.loop-step-test.false)) refl))

pub returns-clause-units : goal.returns-clause-units
returns-clause-units g c =
    let link = c.args.link.now in
    let was = c.loop-step.link in
    let samples = map sample_of c.args.samples.now in
    let end : Serving Hops = serving_of was.link.sender was.link.forwarder was.link.receiver was.session c.loop-step.run in
    release_served_leaving_out link.stream samples c.args.steps.now link.link.sender link.link.forwarder link.link.receiver link.session end
    (c.loop-step.invariant.runs end
    (subst (λ (xs : List ServeLeaveStep). ServeLeaveRuns link.stream samples xs end end) (sym (drop_all c.loop-step.step-index c.args.steps.now c.loop-step-test.false)) refl))

pub returns-clause-forwards : goal.returns-clause-forwards
returns-clause-forwards g c =
    let link = c.args.link.now in
    let was = c.loop-step.link in
    let samples = map sample_of c.args.samples.now in
    let end : Serving Hops = serving_of was.link.sender was.link.forwarder was.link.receiver was.session c.loop-step.run in
    packets_served_leaving_out link.stream samples c.args.steps.now link.link.sender link.link.forwarder link.link.receiver link.session end
    (c.loop-step.invariant.runs end
    (subst (λ (xs : List ServeLeaveStep). ServeLeaveRuns link.stream samples xs end end) (sym (drop_all c.loop-step.step-index c.args.steps.now c.loop-step-test.false)) refl))
