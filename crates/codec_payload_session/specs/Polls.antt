-- The events of a session: its packets of telephone events, then those of its streams, then its reports, and then the feedback about its
-- transport.
use Rattle.std.specs.Prelude.{◌≡◌, ℕ, List, [], ◌∷◌, Option, Some, None, Result}
use Rattle.std.specs.Global.{Vec}
use Rattle.std.specs.declared.alloc.AllocError.{AllocError}
use Rattle.codec_payload_base.specs.declared.wire.Ticks.{Ticks}
use Rattle.codec_payload_feedback.specs.Transport.{Reporter}
use Rattle.codec_payload_session.specs.Arrivals.{Port}
use Rattle.codec_payload_session.specs.Ports.{Session}
use Rattle.codec_payload_session.specs.Reporting.{ReportsBy}
use Rattle.codec_payload_session_stream.specs.Telephone.{event_of}
use Rattle.codec_payload_session_requests.specs.Transports.{SendsBy}
use Rattle.codec_payload_session.specs.Turns.{TakesTurn}
use Rattle.codec_payload_session_stream.specs.Units.{Event}
use Rattle.codec_payload_session_stream.specs.declared.events.Event.{Event as EventWith}
use Rattle.codec_payload_session_stream.specs.declared.telephone.TelephonePacket.{TelephonePacket}
use Rattle.codec_payload_session_stream.specs.Events.{report_event, transport_event}

-- the report, if one is due
pub record SendsReport {U : Type 0} (now : ℕ) (s : Session) (answer : Option (EventWith U)) (t : Session) : Type 0 where
  pub packet : Option (Result (Vec ℕ) AllocError)
  pub due : Option ℕ
  pub port : Port
  pub reports : ReportsBy s.settings.feedback s.settings.tick_rate now s.report_due s.port packet due port
  pub answers : answer ≡ report_event packet
  pub left : t ≡ record s { port = port; report_due = due }

-- an event of the streams, or else the report
abbrev pub GoesOn : Option Event → ℕ → Session → Option Event → Session → Type 0
GoesOn None now s answer t = SendsReport now s answer t
GoesOn (Some event) now s answer t = (answer ≡ Some event) × (t ≡ s)

-- the streams take their turn; without an event of theirs the report is sent, if one is due
pub record TurnsOrReports (now : Ticks) (s : Session) (answer : Option Event) (t : Session) : Type 0 where
  pub event : Option Event
  pub port : Port
  pub turn : TakesTurn now s.settings.idle_timeout s.port event port
  pub goes_on : GoesOn event now.0 (record s { port = port }) answer t

-- the feedback about the transport, if it is due
pub record SendsTransport {U : Type 0} (now : ℕ) (s : Session) (answer : Option (EventWith U)) (t : Session) : Type 0 where
  pub packet : Option (Result (Vec ℕ) AllocError)
  pub transport : Option Reporter
  pub sends : SendsBy s.settings.feedback now s.transport packet transport
  pub answers : answer ≡ transport_event packet
  pub left : t ≡ record s { transport = transport }

-- an event of the streams or a report, or else the feedback
abbrev pub SendsAfter : Option Event → ℕ → Session → Option Event → Session → Type 0
SendsAfter None now s answer t = SendsTransport now s answer t
SendsAfter (Some event) now s answer t = (answer ≡ Some event) × (t ≡ s)

-- the streams take their turn, then the report; without an event of theirs the feedback is sent, if it is due
pub record TurnsOrSends (now : Ticks) (s : Session) (answer : Option Event) (t : Session) : Type 0 where
  pub event : Option Event
  pub after : Session
  pub turn : TurnsOrReports now s event after
  pub sends : SendsAfter event now.0 after answer t

-- a packet of telephone events that waits comes first
abbrev pub PollsAfter : List TelephonePacket → Ticks → Session → Option Event → Session → Type 0
PollsAfter [] now s event t = TurnsOrSends now s event t
PollsAfter (w ∷ ws) now s event t = (event ≡ Some (event_of w)) × (t ≡ record s { telephone = record s.telephone { waiting = ws } })

abbrev pub Polls : Ticks → Session → Option Event → Session → Type 0
Polls now s event t = PollsAfter s.telephone.waiting now s event t
