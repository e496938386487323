use Rattle.std.proofs.Common.{inl, inr, refl, sym, subst, map, List}
use Rattle.std.proofs.lemmas.List.{drop_all, drop_more}
use Rattle.codec_payload_codec.proofs.AnswerLemmas.{on_err}
use Rattle.codec_payload_payloader.specs.Sending.{sample_of}
use Rattle.codec_payload_datagram_runs.proofs.RedReleaseLemmas.{promises_in_red, release_in_red}
use Rattle.codec_payload_datagram_runs.specs.RedRuns.{RedRuns, RedStops, RedWire, red_wire_of}
use Rattle.codec_payload_datagram_runs.specs.OwnRedRuns.{AsksInRedRun}
use Rattle.codec_payload_datagram_runs.specs.OwnRuns.{AsksForEnds, AsksForUnit, AsksPacketizer}
use Rattle.codec_payload_datagram_runs.specs.declared.run.DatagramStep.{DatagramStep}
use Rattle.codec_payload_datagram_runs.proofs.red_run.run_datagrams_in_red.Goals as goal

pub loop-step-preserved : goal.loop-step-preserved
loop-step-preserved g c =
    let now : RedWire = red_wire_of c.loop-step.link.sender c.loop-step.link.writer c.loop-step.link.receiver c.loop-step.run in
    let next : RedWire = red_wire_of c.do_red_step.new.link.sender c.do_red_step.new.link.writer c.do_red_step.new.link.receiver c.do_red_step.new.run in
    record {
      runs = λ t later.
          c.loop-step.invariant.runs t
          (subst (λ (xs : List DatagramStep). RedRuns (map sample_of c.args.samples.now) xs now t)
          (sym (drop_more c.args.steps.now c.loop-step.step-index _ c.loop-step-test.true))
          (next, c.in_ok-do_red_step.ensures.ok, later));
      stops = λ sending writer session later.
          c.loop-step.invariant.stops sending writer session
          (subst (λ (xs : List DatagramStep). RedStops (map sample_of c.args.samples.now) xs now sending writer session)
          (sym (drop_more c.args.steps.now c.loop-step.step-index _ c.loop-step-test.true))
          (inr (next, c.in_ok-do_red_step.ensures.ok, later)));
      own = λ t later.
          c.loop-step.invariant.own t
          (subst (λ (xs : List DatagramStep). AsksInRedRun (AsksPacketizer g.P.Packetizer.state g.P.Packetizer.packetize_step g.P.Packetizer.marker_step g.P.Packetizer.marks_spurts) (AsksForEnds g.D.Depacketizer.is_head g.D.Depacketizer.is_tail) (AsksForUnit g.D.Depacketizer.state g.D.Depacketizer.depacketize_step) (map sample_of c.args.samples.now) xs now t)
          (sym (drop_more c.args.steps.now c.loop-step.step-index _ c.loop-step-test.true))
          (next, c.in_ok-do_red_step.ensures.ok, c.in_ok-do_red_step.ensures.own, later));
    }

pub returns-in_err-do_red_step-clause-stops : goal.returns-in_err-do_red_step-clause-stops
returns-in_err-do_red_step-clause-stops g c =
    let now : RedWire = red_wire_of c.loop-step.link.sender c.loop-step.link.writer c.loop-step.link.receiver c.loop-step.run in
    let link = c.do_red_step.new.link in
    on_err c.from_residual.result
    (c.loop-step.invariant.stops link.sender link.writer link.receiver
    (subst (λ (xs : List DatagramStep). RedStops (map sample_of c.args.samples.now) xs now link.sender link.writer link.receiver)
    (sym (drop_more c.args.steps.now c.loop-step.step-index _ c.loop-step-test.true))
    (inl c.in_err-do_red_step.ensures.err)))

-- at the end no step is left
pub returns-clause-units : goal.returns-clause-units
returns-clause-units g c =
    let end : RedWire = red_wire_of c.loop-step.link.sender c.loop-step.link.writer c.loop-step.link.receiver c.loop-step.run in
    release_in_red (map sample_of c.args.samples.now) c.args.steps.now c.args.link.now.sender c.args.link.now.writer c.args.link.now.receiver end
    (c.loop-step.invariant.runs end
    (subst (λ (xs : List DatagramStep). RedRuns (map sample_of c.args.samples.now) xs end end) (sym (drop_all c.loop-step.step-index c.args.steps.now c.loop-step-test.false)) refl))

pub returns-clause-promises : goal.returns-clause-promises
returns-clause-promises g c =
    let end : RedWire = red_wire_of c.loop-step.link.sender c.loop-step.link.writer c.loop-step.link.receiver c.loop-step.run in
    promises_in_red (map sample_of c.args.samples.now) c.args.steps.now c.args.link.now.sender c.args.link.now.writer c.args.link.now.receiver end
    (c.loop-step.invariant.runs end
    (subst (λ (xs : List DatagramStep). RedRuns (map sample_of c.args.samples.now) xs end end) (sym (drop_all c.loop-step.step-index c.args.steps.now c.loop-step-test.false)) refl))

pub returns-clause-own : goal.returns-clause-own
returns-clause-own g c =
    let end : RedWire = red_wire_of c.loop-step.link.sender c.loop-step.link.writer c.loop-step.link.receiver c.loop-step.run in
    c.loop-step.invariant.own end
    (subst (λ (xs : List DatagramStep). AsksInRedRun (AsksPacketizer g.P.Packetizer.state g.P.Packetizer.packetize_step g.P.Packetizer.marker_step g.P.Packetizer.marks_spurts) (AsksForEnds g.D.Depacketizer.is_head g.D.Depacketizer.is_tail) (AsksForUnit g.D.Depacketizer.state g.D.Depacketizer.depacketize_step) (map sample_of c.args.samples.now) xs end end)
    (sym (drop_all c.loop-step.step-index c.args.steps.now c.loop-step-test.false)) refl)
