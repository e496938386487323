use Rattle.std.proofs.Common.{inl, inr, refl, sym, subst, map, List}
use Rattle.std.proofs.lemmas.List.{drop_all, drop_more}
use Rattle.codec_payload_codec.proofs.AnswerLemmas.{on_err}
use Rattle.codec_payload_payloader.specs.Sending.{sample_of}
use Rattle.codec_payload_forward_runs.proofs.StoreReleaseLemmas.{release_with_store}
use Rattle.codec_payload_forward_runs.specs.StoreRuns.{StoreRuns, StoreStops, Stored, stored_of}
use Rattle.codec_payload_forward_runs.specs.declared.store_run.StoreStep.{StoreStep}
use Rattle.codec_payload_forward_runs.proofs.store_run.run_forwarded_with_store.Goals as goal

pub loop-step-preserved : goal.loop-step-preserved
loop-step-preserved g c =
    let now : Stored = stored_of c.loop-step.link.link.sender c.loop-step.link.link.forwarder c.loop-step.link.link.receiver c.loop-step.link.store c.loop-step.run in
    let left = c.do_store_step.new.link in
    let next : Stored = stored_of left.link.sender left.link.forwarder left.link.receiver left.store c.do_store_step.new.run in
    record {
      runs = λ t later.
          c.loop-step.invariant.runs t
          (subst (λ (xs : List StoreStep). StoreRuns (map sample_of c.args.samples.now) xs now t)
          (sym (drop_more c.args.steps.now c.loop-step.step-index _ c.loop-step-test.true))
          (next, c.in_ok-do_store_step.ensures.ok, later));
      stops = λ sending forwarder session store later.
          c.loop-step.invariant.stops sending forwarder session store
          (subst (λ (xs : List StoreStep). StoreStops (map sample_of c.args.samples.now) xs now sending forwarder session store)
          (sym (drop_more c.args.steps.now c.loop-step.step-index _ c.loop-step-test.true))
          (inr (next, c.in_ok-do_store_step.ensures.ok, later)));
    }

pub returns-in_err-do_store_step-clause-stops : goal.returns-in_err-do_store_step-clause-stops
returns-in_err-do_store_step-clause-stops g c =
    let now : Stored = stored_of c.loop-step.link.link.sender c.loop-step.link.link.forwarder c.loop-step.link.link.receiver c.loop-step.link.store c.loop-step.run in
    let left = c.do_store_step.new.link in
    on_err c.from_residual.result
    (c.loop-step.invariant.stops left.link.sender left.link.forwarder left.link.receiver left.store
    (subst (λ (xs : List StoreStep). StoreStops (map sample_of c.args.samples.now) xs now left.link.sender left.link.forwarder left.link.receiver left.store)
    (sym (drop_more c.args.steps.now c.loop-step.step-index _ c.loop-step-test.true))
    (inl c.in_err-do_store_step.ensures.err)))

-- at the end no step is left
pub returns-clause-units : goal.returns-clause-units
returns-clause-units g c =
    let end : Stored = stored_of c.loop-step.link.link.sender c.loop-step.link.link.forwarder c.loop-step.link.link.receiver c.loop-step.link.store c.loop-step.run in
    let link = c.args.link.now in
    release_with_store (map sample_of c.args.samples.now) c.args.steps.now link.link.sender link.link.forwarder link.link.receiver link.store end
    (c.loop-step.invariant.runs end
    (subst (λ (xs : List StoreStep). StoreRuns (map sample_of c.args.samples.now) xs end end) (sym (drop_all c.loop-step.step-index c.args.steps.now c.loop-step-test.false)) refl))
