use Rattle.std.proofs.Common.{rules, ◌<◌, ◌≤◌, ◌∙◌, [], ◌++◌, length, refl, append_assoc, inl, inr}
use Rattle.std.proofs.lemmas.List.{append-nil, drop_all, drop_more}
use Rattle.codec_payload_buffer_runs.proofs.in_red.RedLogs.{red_promises}
use Rattle.codec_payload_codec.proofs.AnswerLemmas.{on_err}
use Rattle.codec_payload_buffer_runs.specs.RedPromises.{RunsAsRedSteps, ran_in_red, protection_of}
use Rattle.codec_payload_buffer_runs.specs.RedSchedule.{red_state}
use Rattle.codec_payload_buffer_runs.specs.declared.run.Step.TheVariants as steps
use Rattle.codec_payload_buffer_runs.proofs.red.run_in_red.Goals as goal

pub loop-place-init : goal.loop-place-init
loop-place-init g c = record {
  now = c.args.sink.now.packets;
  long = refl;
  completes = λ sends pops after run. rw (c.new.ensures.items, c.new-2.ensures.items) run;
  limit = refl;
  stops = λ after stopped. stopped;
  loan = refl;
  protection = refl;
}

pub loop-place-preserved : goal.loop-place-preserved
loop-place-preserved g c =
    let before = c.loop-place.invariant in
    let did = rw before.protection at c.in_ok-do_red_step.ensures.ok before.now before.long in
    let inside : c.loop-place.place < length c.args.steps.now = search rules in
    record {
      now = did.0;
      long = did.3;
      completes = λ sends pops after run.
          let whole = before.completes (did.1 ++ sends) (did.2 ++ pops) after
          (rw (drop_more c.args.steps.now c.loop-place.place (steps.Send 0 0) inside) (did.1, sends, did.2, pops, _, refl, refl, did.6, run)) in
          rw (did.4, did.5, append_assoc c.loop-place.run.sends.items did.1 sends, append_assoc c.loop-place.run.pops.items did.2 pops) whole;
      limit = c.in_ok-do_red_step.ensures.limit ∙ before.limit;
      stops = λ after stopped. before.stops after (rw (drop_more c.args.steps.now c.loop-place.place (steps.Send 0 0) inside) (inr (did.1, did.2, _, did.6, stopped)));
      loan = c.in_ok-do_red_step.ensures.loan ∙ before.loan;
      protection = c.in_ok-do_red_step.ensures.protection ∙ before.protection;
    }

pub returns-clause-promises : goal.returns-clause-promises
returns-clause-promises g c =
    let at_end : length c.args.steps.now ≤ c.loop-place.place = search rules in
    let before = c.loop-place.invariant in
    let after = red_state c.loop-place.payloader c.loop-place.buffer c.loop-place.sink before.now c.loop-place.red.sender.now in
    let whole = before.completes [] [] after (rw (drop_all _ _ at_end) (refl, refl, refl)) in
    let ran = ran_in_red (protection_of c.args.red.now) c.args.samples.now c.args.steps.now
    (red_state c.args.payloader.now c.args.buffer.now c.args.sink.now c.args.sink.now.packets c.args.red.now.sender.now) c.loop-place.run after in
    let runs : RunsAsRedSteps ran = simp append-nil at whole in
    (before.now, red_promises ran runs)

pub returns-in_err-do_red_step-clause-stops : goal.returns-in_err-do_red_step-clause-stops
returns-in_err-do_red_step-clause-stops g c =
    let before = c.loop-place.invariant in
    let inside : c.loop-place.place < length c.args.steps.now = search rules in
    let stopped = rw before.protection at c.in_err-do_red_step.ensures.err before.now before.long in
    let after = red_state c.do_red_step.new.payloader c.do_red_step.new.buffer c.do_red_step.new.sink stopped.0 c.do_red_step.new.red.sender.now in
    on_err c.from_residual.result (stopped.0, before.stops after (rw (drop_more c.args.steps.now c.loop-place.place (steps.Send 0 0) inside) (inl stopped.2)))
