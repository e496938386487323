-- The steps of a run of a media server: datagrams come to its session, and the session's datagrams of one stream go to a forwarder.
use Rattle.std.specs.Global.{Vec}
use Rattle.std.specs.Prelude.{◌≡◌, ℕ, nat_lt, ◌&&◌, if◌then◌else◌, Bool, true, false, List, [], ◌∷◌, ◌++◌, ◌⊎◌, Option, Some, None, Result, Ok, Err, MatchOption, slice_get}
use Rattle.std.specs.declared.alloc.AllocError.{AllocError}
use Rattle.codec_payload_payloader.specs.Sending.{Sample}
use Rattle.codec_payload_receiver.specs.Sessions.{Session as Receiver}
use Rattle.codec_payload_rtp.specs.RtpPackets.{Packet}
use Rattle.codec_payload_rtp.specs.RtpReading.{rtp_at}
use Rattle.codec_payload_sending.specs.Senders.{Sending}
use Rattle.codec_payload_sending_forward.specs.Forwarding.{Forward, wrapped}
use Rattle.codec_payload_sending_history.specs.Originals.{WritesOriginal}
use Rattle.codec_payload_sending_history.specs.declared.original.OriginalStream.{OriginalStream}
use Rattle.codec_payload_sending_history.specs.declared.retransmission.RetransmissionStream.{RetransmissionStream}
use Rattle.codec_payload_session.specs.Accepting.{Accepts, time_for}
use Rattle.codec_payload_session.specs.Ports.{Session}
use Rattle.codec_payload_session_stream.specs.declared.arrival.Arrival.{Arrival}
use Rattle.codec_payload_session_stream.specs.declared.arrival.Arrival.TheVariants as arrivals
use Rattle.codec_payload_forward_runs.specs.ForwardRuns.{Comes, DoesForwardStep, ForwardStopsAt, Hops, begins_forwarding, hops_of, packet_in}
use Rattle.codec_payload_forward_runs.specs.declared.run.ForwardStep.{ForwardStep}
use Rattle.codec_payload_forward_runs.specs.declared.run.ForwardStep.TheVariants as plain
use Rattle.codec_payload_session_runs.specs.Lives.{is_same}
use Rattle.codec_payload_session_runs.specs.SessionRuns.{Does}
use Rattle.codec_payload_session_runs.specs.declared.run.StepAnswer.{StepAnswer}
use Rattle.codec_payload_session_runs.specs.declared.run.StepAnswer.TheVariants as answers
use Rattle.codec_payload_server_runs.specs.declared.run.Moment.{Moment}
use Rattle.codec_payload_server_runs.specs.declared.run.ServedRun.{ServedRun}
use Rattle.codec_payload_server_runs.specs.declared.run.ServeStep.{ServeStep}
use Rattle.codec_payload_server_runs.specs.declared.run.ServeStep.TheVariants as steps

-- a run with a forwarder so far; the session of the media server; and its answers
pub record Served : Type 0 where
  pub hops : Hops
  pub server : Session
  pub answers : List StepAnswer

abbrev pub served_of : Sending → Forward → Receiver → Session → ServedRun → Served
served_of sending forwarder receiver server run = record { hops = hops_of sending forwarder receiver run.run; server = server; answers = run.answers.items }

-- before any step
abbrev pub begins_serving : Sending → Forward → Receiver → Session → Served
begins_serving sending forwarder receiver server = record { hops = begins_forwarding sending forwarder receiver; server = server; answers = [] }

-- the session took the datagram as one of this stream, whatever the stream did with it
abbrev pub is_taken_as : OriginalStream → Result Arrival AllocError → Bool
is_taken_as stream (Ok (arrivals.Stream ssrc payload_type outcome)) = is_same stream.ssrc stream.payload_type ssrc payload_type
is_taken_as stream (Ok (arrivals.Faulty ssrc payload_type fault)) = false
is_taken_as stream (Ok arrivals.Rtcp) = false
is_taken_as stream (Ok arrivals.Malformed) = false
is_taken_as stream (Ok arrivals.Unknown) = false
is_taken_as stream (Ok arrivals.Refused) = false
is_taken_as stream (Ok arrivals.Unassociated) = false
is_taken_as stream (Err fault) = false

-- a retransmission is unwrapped first
abbrev pub ComesUnwrapped : OriginalStream → (retransmission : List ℕ) → (time : ℕ) → Hops → Hops → Type 0
ComesUnwrapped stream retransmission time s t = (original : List ℕ) × WritesOriginal stream retransmission original × Comes (packet_in (Some original)) time s t

-- this is done for a datagram that the session took as one of the stream, and nothing for any other one
abbrev pub DoesIf : (taken : Bool) → (Hops → Hops → Type 0) → Hops → Hops → Type 0
DoesIf true Passes s t = Passes s t
DoesIf false Passes s t = t ≡ s

-- A datagram comes to the media server: the session receives it, and then it may come to the forwarder
pub record Arrives (stream : OriginalStream) (at : Moment) (datagram : List ℕ) (Passes : Hops → Hops → Type 0) (s t : Served) : Type 0 where
  pub arrival : Result Arrival AllocError
  pub server : Session
  pub accepts : Accepts (time_for at.micros at.now s.server) at.now datagram s.server arrival server
  pub hops : Hops
  pub passes : DoesIf (is_taken_as stream arrival) Passes s.hops hops
  pub left : t ≡ record { hops = hops; server = server; answers = s.answers ++ answers.Received arrival ∷ [] }

-- both payload types are at most 127
abbrev pub fits_in : OriginalStream → RetransmissionStream → Bool
fits_in stream again = nat_lt stream.payload_type 128 && nat_lt again.payload_type 128

-- the packet that a retransmission repeats, if there is one
abbrev pub repeated_in : OriginalStream → RetransmissionStream → Option (List ℕ) → Option Packet
repeated_in stream again datagram = if fits_in stream again then packet_in datagram else None

-- these bytes are the retransmission of the packet under the first number of that stream
abbrev pub IsAgain : RetransmissionStream → Packet → List ℕ → Type 0
IsAgain again packet bytes = rtp_at bytes ≡ Ok (wrapped again again.first_number packet)

-- Steps

-- a step of the run with the forwarder, which the session does not see
abbrev pub DoesHop : List Sample → ForwardStep → Served → Served → Type 0
DoesHop samples step s t = (hops : Hops) × DoesForwardStep samples step s.hops hops × (t ≡ record s { hops = hops })

-- one step
abbrev pub DoesServeStep : OriginalStream → List Sample → ServeStep → Served → Served → Type 0
DoesServeStep stream samples (steps.Send i) s t = DoesHop samples (plain.Send i) s t
DoesServeStep stream samples (steps.Arrive k at) s t =
    MatchOption (slice_get s.hops.wire.datagrams k) (t ≡ s) (λ bytes.
    (datagram : Vec ℕ) × (datagram.items ≡ bytes) × Arrives stream at datagram.items (Comes (packet_in (Some bytes)) at.time) s t)
DoesServeStep stream samples (steps.Repeat k again at) s t =
    MatchOption (repeated_in stream again (slice_get s.hops.wire.datagrams k)) (t ≡ s) (λ packet.
    (datagram : Vec ℕ) × IsAgain again packet datagram.items × Arrives stream at datagram.items (ComesUnwrapped stream datagram.items at.time) s t)
DoesServeStep stream samples (steps.Call call) s t =
    (answer : StepAnswer) × (server : Session) × Does call s.server answer server × (t ≡ record s { server = server; answers = s.answers ++ answer ∷ [] })
DoesServeStep stream samples (steps.Deliver j now) s t = DoesHop samples (plain.Deliver j now) s t
DoesServeStep stream samples (steps.Pop now) s t = DoesHop samples (plain.Pop now) s t
DoesServeStep stream samples steps.Finish s t = DoesHop samples plain.Finish s t

-- the steps, in order
abbrev pub ServeRuns : OriginalStream → List Sample → List ServeStep → Served → Served → Type 0
ServeRuns stream samples [] s t = t ≡ s
ServeRuns stream samples (step ∷ later) s t = (mid : Served) × DoesServeStep stream samples step s mid × ServeRuns stream samples later mid t

-- Memory ran out

-- sender, forwarder and receiver are as before
abbrev pub AreSame : Served → Sending → Forward → Receiver → Type 0
AreSame s sending forwarder receiver = (sending ≡ s.hops.wire.sending) × (forwarder ≡ s.hops.forwarder) × (receiver ≡ s.hops.wire.session)

-- for a step of the run with the forwarder. The session is as before
abbrev pub StopsHop : List Sample → ForwardStep → Served → Sending → Forward → Receiver → Session → Type 0
StopsHop samples step s sending forwarder receiver server = ForwardStopsAt samples step s.hops sending forwarder receiver × (server ≡ s.server)

-- for a datagram that the session took as one of the stream, after that
pub record StopsAfter (stream : OriginalStream) (at : Moment) (datagram : List ℕ) (s : Served) (server : Session) : Type 0 where
  pub arrival : Result Arrival AllocError
  pub accepts : Accepts (time_for at.micros at.now s.server) at.now datagram s.server arrival server
  pub taken : is_taken_as stream arrival ≡ true

-- for the answer of the session, which is then as before, or after the session took the datagram
abbrev pub StopsArriving : OriginalStream → Moment → (datagram : List ℕ) → Served → Sending → Forward → Receiver → Session → Type 0
StopsArriving stream at datagram s sending forwarder receiver server = AreSame s sending forwarder receiver × ((server ≡ s.server) ⊎ StopsAfter stream at datagram s server)

-- for a step
abbrev pub ServeStopsAt : OriginalStream → List Sample → ServeStep → Served → Sending → Forward → Receiver → Session → Type 0
ServeStopsAt stream samples (steps.Send i) s sending forwarder receiver server = StopsHop samples (plain.Send i) s sending forwarder receiver server
ServeStopsAt stream samples (steps.Arrive k at) s sending forwarder receiver server =
    (datagram : List ℕ) × (slice_get s.hops.wire.datagrams k ≡ Some datagram) × StopsArriving stream at datagram s sending forwarder receiver server
ServeStopsAt stream samples (steps.Repeat k again at) s sending forwarder receiver server =
    (AreSame s sending forwarder receiver × (server ≡ s.server))
    ⊎ ((packet : Packet) × (datagram : List ℕ) × (repeated_in stream again (slice_get s.hops.wire.datagrams k) ≡ Some packet) × IsAgain again packet datagram
    × StopsArriving stream at datagram s sending forwarder receiver server)
ServeStopsAt stream samples (steps.Call call) s sending forwarder receiver server = AreSame s sending forwarder receiver × (server ≡ s.server)
ServeStopsAt stream samples (steps.Deliver j now) s sending forwarder receiver server = StopsHop samples (plain.Deliver j now) s sending forwarder receiver server
ServeStopsAt stream samples (steps.Pop now) s sending forwarder receiver server = StopsHop samples (plain.Pop now) s sending forwarder receiver server
ServeStopsAt stream samples steps.Finish s sending forwarder receiver server = StopsHop samples plain.Finish s sending forwarder receiver server

-- the steps, in order, up to a step for which memory ran out; the sender, the forwarder, the receiver and the session after it
abbrev pub ServeStops : OriginalStream → List Sample → List ServeStep → Served → Sending → Forward → Receiver → Session → Type 0
ServeStops stream samples [] s sending forwarder receiver server = ⊥
ServeStops stream samples (step ∷ later) s sending forwarder receiver server =
    ServeStopsAt stream samples step s sending forwarder receiver server
    ⊎ ((mid : Served) × DoesServeStep stream samples step s mid × ServeStops stream samples later mid sending forwarder receiver server)
