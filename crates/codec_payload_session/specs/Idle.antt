-- Until the next deadline no poll has an event.
use Rattle.std.specs.Prelude.{◌≤◌, ◌<◌, ◌+◌, ◌^◌, ℕ, List, [], ◌∷◌, Option, Some, None, Ok, Err, length}
use Rattle.codec_payload_base.specs.declared.wire.Ticks.{Ticks}
use Rattle.codec_payload_session.specs.Polls.{Polls}
use Rattle.codec_payload_session.specs.Ports.{Session}
use Rattle.codec_payload_session_stream.specs.Quiet.{IsBefore}
use Rattle.codec_payload_session.specs.Reporting.{report_deadline}
use Rattle.codec_payload_session_stream.specs.Streams.{due_in, earlier}
use Rattle.codec_payload_session_stream.specs.Telephone.{due_before}
use Rattle.codec_payload_session_requests.specs.Transports.{transport_deadline}
use Rattle.codec_payload_session_stream.specs.Units.{Event}
use Rattle.codec_payload_session_stream.specs.declared.events.Event.TheVariants as events
use Rattle.codec_payload_session_stream.specs.declared.stream.StreamState.{StreamState}

-- when a poll may have an event without a datagram: at once while telephone events wait, else the time of a stream, of the report, or of
-- the feedback about the transport
abbrev pub next_of : Session → Option ℕ
next_of s =
    due_before s.telephone
    (earlier (earlier (due_in s.settings.idle_timeout s.port.streams) (report_deadline s.report_due s.port)) (transport_deadline s.transport))

-- how many packets the streams hold
abbrev pub held_in : List StreamState → ℕ
held_in [] = 0
held_in (s ∷ ss) = length s.receiver.packets.buffer.held + held_in ss

-- there is no event, or memory ran out for a request
abbrev pub IsNoEvent : Option Event → Type 0
IsNoEvent None = Unit {0}
IsNoEvent (Some (events.Begun ssrc payload_type)) = ⊥
IsNoEvent (Some (events.Unit ssrc payload_type rtp_time decodable keyframe unit)) = ⊥
IsNoEvent (Some (events.TooLarge ssrc payload_type unit)) = ⊥
IsNoEvent (Some (events.Refused ssrc payload_type fault)) = ⊥
IsNoEvent (Some (events.Feedback ssrc payload_type (Ok packet))) = ⊥
IsNoEvent (Some (events.Feedback ssrc payload_type (Err e))) = Unit {0}
IsNoEvent (Some (events.Telephone ssrc payload_type rtp_time marker payload)) = ⊥
IsNoEvent (Some (events.Report packet)) = ⊥
IsNoEvent (Some (events.TransportFeedback packet)) = ⊥
IsNoEvent (Some (events.Ended ssrc payload_type why)) = ⊥

-- from `now` on and before the next deadline no poll has an event
abbrev pub IsIdle : ℕ → Session → Type 0
IsIdle now s = (later : Ticks) (answer : Option Event) (t : Session) → now ≤ later.0 → later.0 < 2 ^ 64 → IsBefore (next_of s) later.0 → Polls later s answer t → IsNoEvent answer
