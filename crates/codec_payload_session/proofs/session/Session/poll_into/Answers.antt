use Rattle.std.proofs.Common.{Option, None, Some, ap, subst}
use Rattle.std.specs.Prelude.{⊤}
use Rattle.codec_payload_metadata.specs.Release.{Release}
use Rattle.codec_payload_session.specs.Polls.{Polls}
use Rattle.codec_payload_session.specs.Ports.{Session}
use Rattle.codec_payload_session_stream.specs.Units.{event_to, with_unit}
use Rattle.codec_payload_session_stream.specs.declared.events.Event.{Event as EventWith}
use Rattle.codec_payload_session.proofs.IdleLemmas.{idle_after}
use Rattle.codec_payload_session.proofs.PacketsLemmas.{polls_some}
use Rattle.codec_payload_session.proofs.TelephoneLemmas.{polls_first, polls_turn}
use Rattle.codec_payload_session_stream.proofs.TelephoneLemmas.{stay_fewer}
use Rattle.codec_payload_session_stream.proofs.UnitLemmas.{gives_to}
use Rattle.codec_payload_session.proofs.session.Session.poll_into.Goals as goal

pub invariant_of-self : goal.invariant_of-self
invariant_of-self c = record {
  usable = c.self.invariant.usable;
  port = c.self.invariant.port;
  few = stay_fewer c.self.inside.telephone c.take.result c.take.new.self c.take.ensures c.self.invariant.few;
}

pub invariant_of-self-in-None : goal.invariant_of-self-in-None
invariant_of-self-in-None c = record {
  usable = c.self.invariant.usable;
  port = c.self.invariant.port;
  few = stay_fewer c.self.inside.telephone c.take.result c.take.new.self c.take.ensures c.self.invariant.few;
}

pub returns-in-Some-clause-polls : goal.returns-in-Some-clause-polls
returns-in-Some-clause-polls c =
    let s : Session = record { settings = c.self.inside.settings; port = c.self.inside.streams; counts = c.self.inside.counts; telephone = c.self.inside.telephone; report_due = c.self.inside.report_due; transport = c.self.inside.transport } in
    let unit : Release = c.args.unit.now in
    subst (λ (x : Session). Polls c.args.now x (Some (with_unit c.in-Some.event unit)) (record s { telephone = c.take.new.self })) c.self.view_is
    (polls_first c.args.now s (with_unit c.in-Some.event unit) c.take.new.self (gives_to c.self.inside.telephone c.take.new.self (Some c.in-Some.event) unit c.in-Some.ensures))

pub returns-in-None-clause-polls : goal.returns-in-None-clause-polls
returns-in-None-clause-polls c =
    let s : Session = record { settings = c.self.inside.settings; port = c.self.inside.streams; counts = c.self.inside.counts; telephone = c.self.inside.telephone; report_due = c.self.inside.report_due; transport = c.self.inside.transport } in
    let unit : Release = c.turn_or_feedback.new.unit in
    subst (λ (x : Session). Polls c.args.now x (event_to c.turn_or_feedback.result unit) c.turn_or_feedback.new.self) c.self.view_is
    (polls_turn c.args.now s (event_to c.turn_or_feedback.result unit) c.turn_or_feedback.new.self c.take.new.self (gives_to c.self.inside.telephone c.take.new.self None unit c.in-None.ensures) c.turn_or_feedback.ensures)

-- a unit has packets
pub returns-in-Some-clause-some : goal.returns-in-Some-clause-some
returns-in-Some-clause-some c = polls_some c.args.now _ _ _ (returns-in-Some-clause-polls c)

pub returns-in-None-clause-some : goal.returns-in-None-clause-some
returns-in-None-clause-some c = polls_some c.args.now _ _ _ (returns-in-None-clause-polls c)

-- an event is not none
pub returns-in-Some-clause-idle : goal.returns-in-Some-clause-idle
returns-in-Some-clause-idle c = λ none same. absurd (cc)

pub returns-in-None-clause-idle : goal.returns-in-None-clause-idle
returns-in-None-clause-idle c = λ none same.
    idle_after c.args.now _ c.turn_or_feedback.new.self (event_to c.turn_or_feedback.result c.turn_or_feedback.new.unit) (returns-in-None-clause-polls c) (ap (λ (e : Option (EventWith ⊤)). event_to e c.turn_or_feedback.new.unit) none) same
