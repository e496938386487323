use Rattle.std.proofs.Common.{Option, Some, None, refl, subst}
use Rattle.codec_payload_session.specs.Polls.{TurnsOrReports}
use Rattle.codec_payload_session.specs.Ports.{Session}
use Rattle.codec_payload_session_stream.specs.Units.{Event, event_to}
use Rattle.codec_payload_session.proofs.AccountLemmas.{turn_keeps}
use Rattle.codec_payload_session.proofs.UnitLemmas.{sends_to}
use Rattle.codec_payload_session.proofs.session.Session.turn.Goals as goal

pub invariant_of-self : goal.invariant_of-self
invariant_of-self c = record {
  usable = c.self.invariant.usable;
  port = turn_keeps c.args.now c.self.inside.settings.idle_timeout c.self.inside.settings c.self.inside.counts c.self.inside.streams c.turn.new.self (event_to c.turn.result c.turn.new.unit) c.turn.ensures c.self.invariant.port;
  few = c.self.invariant.few;
}

pub invariant_of-self-in-None : goal.invariant_of-self-in-None
invariant_of-self-in-None c = record {
  usable = c.self.invariant.usable;
  port = turn_keeps c.args.now c.self.inside.settings.idle_timeout c.self.inside.settings c.self.inside.counts c.self.inside.streams c.turn.new.self (event_to c.turn.result c.turn.new.unit) c.turn.ensures c.self.invariant.port;
  few = c.self.invariant.few;
}

pub returns-in-Some : goal.returns-in-Some
returns-in-Some c =
    let t : Session = record { settings = c.self.inside.settings; port = c.turn.new.self; counts = c.self.inside.counts; telephone = c.self.inside.telephone; report_due = c.self.inside.report_due; transport = c.self.inside.transport } in
    let event : Option Event = event_to (Some c.in-Some.event) c.turn.new.unit in
    subst (λ (s : Session). TurnsOrReports c.args.now s event t) c.self.view_is
    (record { event = event; port = c.turn.new.self; turn = c.in-Some.ensures; goes_on = (refl, refl) })

pub returns-in-None : goal.returns-in-None
returns-in-None c =
    let s : Session = record { settings = c.self.inside.settings; port = c.turn.new.self; counts = c.self.inside.counts; telephone = c.self.inside.telephone; report_due = c.self.inside.report_due; transport = c.self.inside.transport } in
    subst (λ (x : Session). TurnsOrReports c.args.now x (event_to c.report_streams.result c.turn.new.unit) c.report_streams.new.self) c.self.view_is
    (record {
      event = None;
      port = c.turn.new.self;
      turn = c.in-None.ensures;
      goes_on = sends_to c.args.now.0 s c.report_streams.new.self c.report_streams.result c.turn.new.unit c.report_streams.ensures;
    })
