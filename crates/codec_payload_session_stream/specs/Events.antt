-- Events of reports and of feedback about the transport.
use Rattle.std.specs.Prelude.{ℕ, Option, Some, None, Result}
use Rattle.std.specs.Global.{Vec}
use Rattle.std.specs.declared.alloc.AllocError.{AllocError}
use Rattle.codec_payload_session_stream.specs.declared.events.Event.{Event as EventWith}
use Rattle.codec_payload_session_stream.specs.declared.events.Event.TheVariants as events

abbrev pub report_event : {U : Type 0} → Option (Result (Vec ℕ) AllocError) → Option (EventWith U)
report_event None = None
report_event (Some packet) = Some (events.Report packet)

abbrev pub transport_event : {U : Type 0} → Option (Result (Vec ℕ) AllocError) → Option (EventWith U)
transport_event None = None
transport_event (Some packet) = Some (events.TransportFeedback packet)
