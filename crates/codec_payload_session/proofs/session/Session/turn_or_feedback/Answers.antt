use Rattle.std.proofs.Common.{None, Some, refl}
use Rattle.codec_payload_session_stream.specs.Units.{event_to}
use Rattle.codec_payload_session.proofs.UnitLemmas.{feeds_to}
use Rattle.codec_payload_session.proofs.session.Session.turn_or_feedback.Goals as goal

pub returns-in-Some : goal.returns-in-Some
returns-in-Some c = record { event = event_to (Some c.in-Some.event) c.turn.new.unit; after = c.turn.new.self; turn = c.in-Some.ensures; sends = (refl, refl) }

pub returns-in-None : goal.returns-in-None
returns-in-None c = record {
  event = None;
  after = c.turn.new.self;
  turn = c.in-None.ensures;
  sends = feeds_to c.args.now.0 c.turn.new.self c.send_transport.new.self c.send_transport.result c.turn.new.unit c.send_transport.ensures;
}
