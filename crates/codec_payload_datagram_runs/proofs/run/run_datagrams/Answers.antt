use Rattle.std.proofs.Common.{inl, inr, refl, sym, subst, map, List}
use Rattle.std.proofs.lemmas.List.{drop_all, drop_more}
use Rattle.codec_payload_codec.proofs.AnswerLemmas.{on_err}
use Rattle.codec_payload_payloader.specs.Sending.{sample_of}
use Rattle.codec_payload_datagram_runs.proofs.ReleaseLemmas.{promises_over_datagrams, release_over_datagrams}
use Rattle.codec_payload_datagram_runs.specs.OwnRuns.{AsksForEnds, AsksForUnit, AsksInRun, AsksPacketizer}
use Rattle.codec_payload_datagram_runs.specs.WireRuns.{Runs, Stops, Wire, wire_of}
use Rattle.codec_payload_datagram_runs.specs.declared.run.DatagramStep.{DatagramStep}
use Rattle.codec_payload_datagram_runs.proofs.run.run_datagrams.Goals as goal

pub loop-step-preserved : goal.loop-step-preserved
loop-step-preserved g c = record {
  runs = λ t later.
      c.loop-step.invariant.runs t
      (subst (λ (xs : List DatagramStep). Runs (map sample_of c.args.samples.now) xs (wire_of c.loop-step.sender c.loop-step.receiver c.loop-step.run) t)
      (sym (drop_more c.args.steps.now c.loop-step.step-index _ c.loop-step-test.true))
      (wire_of c.do_step.new.sender c.do_step.new.receiver c.do_step.new.run, c.in_ok-do_step.ensures.ok, later));
  stops = λ sending session later.
      c.loop-step.invariant.stops sending session
      (subst (λ (xs : List DatagramStep). Stops (map sample_of c.args.samples.now) xs (wire_of c.loop-step.sender c.loop-step.receiver c.loop-step.run) sending session)
      (sym (drop_more c.args.steps.now c.loop-step.step-index _ c.loop-step-test.true))
      (inr (wire_of c.do_step.new.sender c.do_step.new.receiver c.do_step.new.run, c.in_ok-do_step.ensures.ok, later)));
  own = λ t later.
      c.loop-step.invariant.own t
      (subst (λ (xs : List DatagramStep). AsksInRun (AsksPacketizer g.P.Packetizer.state g.P.Packetizer.packetize_step g.P.Packetizer.marker_step g.P.Packetizer.marks_spurts) (AsksForEnds g.D.Depacketizer.is_head g.D.Depacketizer.is_tail) (AsksForUnit g.D.Depacketizer.state g.D.Depacketizer.depacketize_step) (map sample_of c.args.samples.now) xs (wire_of c.loop-step.sender c.loop-step.receiver c.loop-step.run) t)
      (sym (drop_more c.args.steps.now c.loop-step.step-index _ c.loop-step-test.true))
      (wire_of c.do_step.new.sender c.do_step.new.receiver c.do_step.new.run, c.in_ok-do_step.ensures.ok, c.in_ok-do_step.ensures.own, later));
}

pub returns-in_err-do_step-clause-stops : goal.returns-in_err-do_step-clause-stops
returns-in_err-do_step-clause-stops g c =
    on_err c.from_residual.result
    (c.loop-step.invariant.stops c.do_step.new.sender c.do_step.new.receiver
    (subst (λ (xs : List DatagramStep). Stops (map sample_of c.args.samples.now) xs (wire_of c.loop-step.sender c.loop-step.receiver c.loop-step.run) c.do_step.new.sender c.do_step.new.receiver)
    (sym (drop_more c.args.steps.now c.loop-step.step-index _ c.loop-step-test.true))
    (inl c.in_err-do_step.ensures.err)))

-- at the end no step is left
pub returns-clause-units : goal.returns-clause-units
returns-clause-units g c =
    let end : Wire = wire_of c.loop-step.sender c.loop-step.receiver c.loop-step.run in
    release_over_datagrams (map sample_of c.args.samples.now) c.args.steps.now c.args.sender.now c.args.receiver.now end
    (c.loop-step.invariant.runs end
    (subst (λ (xs : List DatagramStep). Runs (map sample_of c.args.samples.now) xs end end) (sym (drop_all c.loop-step.step-index c.args.steps.now c.loop-step-test.false)) refl))

pub returns-clause-promises : goal.returns-clause-promises
returns-clause-promises g c =
    let end : Wire = wire_of c.loop-step.sender c.loop-step.receiver c.loop-step.run in
    promises_over_datagrams (map sample_of c.args.samples.now) c.args.steps.now c.args.sender.now c.args.receiver.now end
    (c.loop-step.invariant.runs end
    (subst (λ (xs : List DatagramStep). Runs (map sample_of c.args.samples.now) xs end end) (sym (drop_all c.loop-step.step-index c.args.steps.now c.loop-step-test.false)) refl))

pub returns-clause-own : goal.returns-clause-own
returns-clause-own g c =
    let end : Wire = wire_of c.loop-step.sender c.loop-step.receiver c.loop-step.run in
    c.loop-step.invariant.own end
    (subst (λ (xs : List DatagramStep). AsksInRun (AsksPacketizer g.P.Packetizer.state g.P.Packetizer.packetize_step g.P.Packetizer.marker_step g.P.Packetizer.marks_spurts) (AsksForEnds g.D.Depacketizer.is_head g.D.Depacketizer.is_tail) (AsksForUnit g.D.Depacketizer.state g.D.Depacketizer.depacketize_step) (map sample_of c.args.samples.now) xs end end)
    (sym (drop_all c.loop-step.step-index c.args.steps.now c.loop-step-test.false)) refl)
