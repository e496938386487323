-- Events whose unit is in memory of the caller, with that unit.
use Rattle.std.proofs.Common.{◌≡◌, ◌∙◌, refl, ap, ℕ, Option, Some, None}
use Rattle.std.specs.Prelude.{⊤}
use Rattle.codec_payload_metadata.specs.Release.{Release}
use Rattle.codec_payload_session.specs.Arrivals.{Port}
use Rattle.codec_payload_session.specs.Polls.{SendsReport, SendsTransport}
use Rattle.codec_payload_session.specs.Ports.{Session}
use Rattle.codec_payload_session_stream.specs.Streams.{StreamState}
use Rattle.codec_payload_session.specs.Turns.{after_step, told_by}
use Rattle.codec_payload_session_stream.specs.Units.{event_to, step_to}
use Rattle.codec_payload_session_stream.specs.declared.events.Event.{Event as EventWith}
use Rattle.codec_payload_session_stream.specs.declared.stream.Step.{Step as StepWith}
use Rattle.codec_payload_session_stream.specs.declared.stream.Step.TheVariants as steps
use Rattle.codec_payload_session_stream.proofs.UnitLemmas.{report_to, transport_to}

-- ---- events

pub told_to : (o : Option StreamState) (step : StepWith ⊤) (unit : Release) → event_to (told_by o step) unit ≡ told_by o (step_to step unit)
told_to None step unit = refl
told_to (Some s) steps.Begun unit = refl
told_to (Some s) (steps.Unit done) unit = refl
told_to (Some s) (steps.TooLarge done) unit = refl
told_to (Some s) (steps.Refused fault) unit = refl
told_to (Some s) (steps.Feedback packet) unit = refl
told_to (Some s) (steps.Ended why) unit = refl
told_to (Some s) steps.Nothing unit = refl

pub after_to : (step : StepWith ⊤) (place : ℕ) (p : Port) (unit : Release) → after_step step place p ≡ after_step (step_to step unit) place p
after_to steps.Begun place p unit = refl
after_to (steps.Unit done) place p unit = refl
after_to (steps.TooLarge done) place p unit = refl
after_to (steps.Refused fault) place p unit = refl
after_to (steps.Feedback packet) place p unit = refl
after_to (steps.Ended why) place p unit = refl
after_to steps.Nothing place p unit = refl

pub sends_to : (now : ℕ) (s t : Session) (answer : Option (EventWith ⊤)) (unit : Release) → SendsReport now s answer t → SendsReport now s (event_to answer unit) t
sends_to now s t answer unit got = record {
  packet = got.packet;
  due = got.due;
  port = got.port;
  reports = got.reports;
  answers = ap (λ (e : Option (EventWith ⊤)). event_to e unit) got.answers ∙ report_to got.packet unit;
  left = got.left;
}

pub feeds_to : (now : ℕ) (s t : Session) (answer : Option (EventWith ⊤)) (unit : Release) → SendsTransport now s answer t → SendsTransport now s (event_to answer unit) t
feeds_to now s t answer unit got = record {
  packet = got.packet;
  transport = got.transport;
  sends = got.sends;
  answers = ap (λ (e : Option (EventWith ⊤)). event_to e unit) got.answers ∙ transport_to got.packet unit;
  left = got.left;
}
