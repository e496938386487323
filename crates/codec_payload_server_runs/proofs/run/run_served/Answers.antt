use Rattle.std.proofs.Common.{◌∙◌, ◌∷◌, ◌+◌, ap, drop, inr, refl, sym, subst, map, List}
use Rattle.std.proofs.lemmas.List.{drop_all, drop_more}
use Rattle.codec_payload_payloader.specs.Sending.{sample_of}
use Rattle.codec_payload_sending_history.specs.declared.original.OriginalStream.{OriginalStream}
use Rattle.codec_payload_server_runs.proofs.ServedReleases.{packets_served, promises_served, release_served, served_session}
use Rattle.codec_payload_server_runs.specs.ServeRuns.{DoesServeStep, ServeRuns, ServeStops, Served, served_of}
use Rattle.codec_payload_server_runs.specs.declared.run.ServeStep.{ServeStep}
use Rattle.codec_payload_server_runs.proofs.run.run_served.Goals as goal

pub loop-step-preserved : goal.loop-step-preserved
loop-step-preserved g c =
    let stream : OriginalStream = c.args.link.now.stream in
    let samples = map sample_of c.args.samples.now in
    let was = c.loop-step.link in
    let left = c.do_serve_step.new.link in
    let now : Served = served_of was.link.sender was.link.forwarder was.link.receiver was.session c.loop-step.run in
    let next : Served = served_of left.link.sender left.link.forwarder left.link.receiver left.session c.do_serve_step.new.run in
    let does = subst (λ (x : OriginalStream). DoesServeStep x samples c.step-item.result now next) c.loop-step.invariant.stream c.in_ok-do_serve_step.ensures.ok in
    let head = drop_more c.args.steps.now c.loop-step.step-index c.step-item.result c.loop-step-test.true ∙ ap (λ (x : ServeStep). x ∷ drop (c.loop-step.step-index + 1) c.args.steps.now) (sym c.step-item.is) in
    record {
      stream = c.do_serve_step.ensures.stream ∙ c.loop-step.invariant.stream;
      runs = λ t later.
          c.loop-step.invariant.runs t
          (subst (λ (xs : List ServeStep). ServeRuns stream samples xs now t) (sym head) (next, does, later));
      stops = λ sending forwarder receiver server later.
          c.loop-step.invariant.stops sending forwarder receiver server
          (subst (λ (xs : List ServeStep). ServeStops stream samples xs now sending forwarder receiver server) (sym head)
          (inr (next, does, later)));
    }

-- at the end no step is left
pub returns-clause-session : goal.returns-clause-session
returns-clause-session g c =
    let link = c.args.link.now in
    let was = c.loop-step.link in
    let end : Served = served_of was.link.sender was.link.forwarder was.link.receiver was.session c.loop-step.run in
    served_session link.stream (map sample_of c.args.samples.now) c.args.steps.now link.link.sender link.link.forwarder link.link.receiver link.session end
    (c.loop-step.invariant.runs end
    (subst (λ (xs : List ServeStep). ServeRuns link.stream (map sample_of c.args.samples.now) xs end end) (sym (drop_all c.loop-step.step-index c.args.steps.now c.loop-step-test.false)) refl))

pub returns-clause-forwards : goal.returns-clause-forwards
returns-clause-forwards g c =
    let link = c.args.link.now in
    let was = c.loop-step.link in
    let end : Served = served_of was.link.sender was.link.forwarder was.link.receiver was.session c.loop-step.run in
    packets_served link.stream (map sample_of c.args.samples.now) c.args.steps.now link.link.sender link.link.forwarder link.link.receiver link.session end
    (c.loop-step.invariant.runs end
    (subst (λ (xs : List ServeStep). ServeRuns link.stream (map sample_of c.args.samples.now) xs end end) (sym (drop_all c.loop-step.step-index c.args.steps.now c.loop-step-test.false)) refl))

pub returns-clause-units : goal.returns-clause-units
returns-clause-units g c =
    let link = c.args.link.now in
    let was = c.loop-step.link in
    let end : Served = served_of was.link.sender was.link.forwarder was.link.receiver was.session c.loop-step.run in
    release_served link.stream (map sample_of c.args.samples.now) c.args.steps.now link.link.sender link.link.forwarder link.link.receiver link.session end
    (c.loop-step.invariant.runs end
    (subst (λ (xs : List ServeStep). ServeRuns link.stream (map sample_of c.args.samples.now) xs end end) (sym (drop_all c.loop-step.step-index c.args.steps.now c.loop-step-test.false)) refl))

pub returns-clause-promises : goal.returns-clause-promises
returns-clause-promises g c =
    let link = c.args.link.now in
    let was = c.loop-step.link in
    let end : Served = served_of was.link.sender was.link.forwarder was.link.receiver was.session c.loop-step.run in
    promises_served link.stream (map sample_of c.args.samples.now) c.args.steps.now link.link.sender link.link.forwarder link.link.receiver link.session end
    (c.loop-step.invariant.runs end
    (subst (λ (xs : List ServeStep). ServeRuns link.stream (map sample_of c.args.samples.now) xs end end) (sym (drop_all c.loop-step.step-index c.args.steps.now c.loop-step-test.false)) refl))
