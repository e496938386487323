use Rattle.std.proofs.Common.{inl, inr, refl, sym, subst, map, List}
use Rattle.std.proofs.lemmas.List.{drop_all, drop_more}
use Rattle.codec_payload_codec.proofs.AnswerLemmas.{on_err}
use Rattle.codec_payload_payloader.specs.Sending.{sample_of}
use Rattle.codec_payload_datagram_runs.proofs.RepeatLemmas.{promises_with_history, release_with_history, repeats_with_history}
use Rattle.codec_payload_datagram_runs.specs.HistoryRuns.{HistoryRuns, HistoryStops, Resending, resending_of}
use Rattle.codec_payload_datagram_runs.specs.OwnHistoryRuns.{AsksInHistoryRun}
use Rattle.codec_payload_datagram_runs.specs.OwnRuns.{AsksForEnds, AsksForUnit, AsksPacketizer}
use Rattle.codec_payload_datagram_runs.specs.declared.history_run.HistoryStep.{HistoryStep}
use Rattle.codec_payload_datagram_runs.proofs.history_run.run_with_history.Goals as goal

pub loop-step-preserved : goal.loop-step-preserved
loop-step-preserved g c =
    let now : Resending = resending_of c.loop-step.link.sender c.loop-step.link.history c.loop-step.link.receiver c.loop-step.run in
    let next : Resending = resending_of c.do_history_step.new.link.sender c.do_history_step.new.link.history c.do_history_step.new.link.receiver c.do_history_step.new.run in
    record {
      runs = λ t later.
          c.loop-step.invariant.runs t
          (subst (λ (xs : List HistoryStep). HistoryRuns (map sample_of c.args.samples.now) xs now t)
          (sym (drop_more c.args.steps.now c.loop-step.step-index _ c.loop-step-test.true))
          (next, c.in_ok-do_history_step.ensures.ok, later));
      stops = λ sending history session later.
          c.loop-step.invariant.stops sending history session
          (subst (λ (xs : List HistoryStep). HistoryStops (map sample_of c.args.samples.now) xs now sending history session)
          (sym (drop_more c.args.steps.now c.loop-step.step-index _ c.loop-step-test.true))
          (inr (next, c.in_ok-do_history_step.ensures.ok, later)));
      own = λ t later.
          c.loop-step.invariant.own t
          (subst (λ (xs : List HistoryStep). AsksInHistoryRun (AsksPacketizer g.P.Packetizer.state g.P.Packetizer.packetize_step g.P.Packetizer.marker_step g.P.Packetizer.marks_spurts) (AsksForEnds g.D.Depacketizer.is_head g.D.Depacketizer.is_tail) (AsksForUnit g.D.Depacketizer.state g.D.Depacketizer.depacketize_step) (map sample_of c.args.samples.now) xs now t)
          (sym (drop_more c.args.steps.now c.loop-step.step-index _ c.loop-step-test.true))
          (next, c.in_ok-do_history_step.ensures.ok, c.in_ok-do_history_step.ensures.own, later));
    }

pub returns-in_err-do_history_step-clause-stops : goal.returns-in_err-do_history_step-clause-stops
returns-in_err-do_history_step-clause-stops g c =
    let now : Resending = resending_of c.loop-step.link.sender c.loop-step.link.history c.loop-step.link.receiver c.loop-step.run in
    let link = c.do_history_step.new.link in
    on_err c.from_residual.result
    (c.loop-step.invariant.stops link.sender link.history link.receiver
    (subst (λ (xs : List HistoryStep). HistoryStops (map sample_of c.args.samples.now) xs now link.sender link.history link.receiver)
    (sym (drop_more c.args.steps.now c.loop-step.step-index _ c.loop-step-test.true))
    (inl c.in_err-do_history_step.ensures.err)))

-- at the end no step is left
pub returns-clause-units : goal.returns-clause-units
returns-clause-units g c =
    let end : Resending = resending_of c.loop-step.link.sender c.loop-step.link.history c.loop-step.link.receiver c.loop-step.run in
    release_with_history (map sample_of c.args.samples.now) c.args.steps.now c.args.link.now.sender c.args.link.now.history c.args.link.now.receiver end
    (c.loop-step.invariant.runs end
    (subst (λ (xs : List HistoryStep). HistoryRuns (map sample_of c.args.samples.now) xs end end) (sym (drop_all c.loop-step.step-index c.args.steps.now c.loop-step-test.false)) refl))

pub returns-clause-promises : goal.returns-clause-promises
returns-clause-promises g c =
    let end : Resending = resending_of c.loop-step.link.sender c.loop-step.link.history c.loop-step.link.receiver c.loop-step.run in
    promises_with_history (map sample_of c.args.samples.now) c.args.steps.now c.args.link.now.sender c.args.link.now.history c.args.link.now.receiver end
    (c.loop-step.invariant.runs end
    (subst (λ (xs : List HistoryStep). HistoryRuns (map sample_of c.args.samples.now) xs end end) (sym (drop_all c.loop-step.step-index c.args.steps.now c.loop-step-test.false)) refl))

pub returns-clause-repeats : goal.returns-clause-repeats
returns-clause-repeats g c =
    let end : Resending = resending_of c.loop-step.link.sender c.loop-step.link.history c.loop-step.link.receiver c.loop-step.run in
    repeats_with_history (map sample_of c.args.samples.now) c.args.steps.now c.args.link.now.sender c.args.link.now.history c.args.link.now.receiver end
    (c.loop-step.invariant.runs end
    (subst (λ (xs : List HistoryStep). HistoryRuns (map sample_of c.args.samples.now) xs end end) (sym (drop_all c.loop-step.step-index c.args.steps.now c.loop-step-test.false)) refl))

pub returns-clause-own : goal.returns-clause-own
returns-clause-own g c =
    let end : Resending = resending_of c.loop-step.link.sender c.loop-step.link.history c.loop-step.link.receiver c.loop-step.run in
    c.loop-step.invariant.own end
    (subst (λ (xs : List HistoryStep). AsksInHistoryRun (AsksPacketizer g.P.Packetizer.state g.P.Packetizer.packetize_step g.P.Packetizer.marker_step g.P.Packetizer.marks_spurts) (AsksForEnds g.D.Depacketizer.is_head g.D.Depacketizer.is_tail) (AsksForUnit g.D.Depacketizer.state g.D.Depacketizer.depacketize_step) (map sample_of c.args.samples.now) xs end end)
    (sym (drop_all c.loop-step.step-index c.args.steps.now c.loop-step-test.false)) refl)
