-- The steps of a run of a media server that leaves packets out: what its session takes as one of the stream comes to the forwarder, to be
-- forwarded or to be left out.
use Rattle.std.specs.Prelude.{◌≡◌, ℕ, Bool, true, false, List, [], ◌∷◌, ◌++◌, Some, MatchOption}
use Rattle.codec_payload_payloader.specs.Sending.{Sample}
use Rattle.codec_payload_receiver.specs.Sessions.{Session as Receiver}
use Rattle.codec_payload_sending.specs.Senders.{Sending}
use Rattle.codec_payload_sending_forward.specs.Forwarding.{Forward, Leaves}
use Rattle.codec_payload_sending_forward.specs.declared.forwarder.Forwarded.{Forwarded}
use Rattle.codec_payload_sending_history.specs.declared.original.OriginalStream.{OriginalStream}
use Rattle.codec_payload_session.specs.Ports.{Session}
use Rattle.codec_payload_forward_runs.specs.ForwardRuns.{Comes, Hops, begins_forwarding, hops_of, packet_in}
use Rattle.codec_payload_forward_runs.specs.LeaveRuns.{DoesLeaveStep, LeaveStopsAt, filled_by}
use Rattle.codec_payload_forward_runs.specs.declared.leave_run.LeaveStep.{LeaveStep}
use Rattle.codec_payload_forward_runs.specs.declared.leave_run.LeaveStep.TheVariants as leaving
use Rattle.codec_payload_forward_runs.specs.declared.run.ForwardStep.{ForwardStep}
use Rattle.codec_payload_forward_runs.specs.declared.run.ForwardStep.TheVariants as plain
use Rattle.codec_payload_server_runs.specs.Serving.{DoesServing, Follow, FollowUntil, Serving, ServingStep, ServingStopsAt, serves}
use Rattle.codec_payload_server_runs.specs.declared.leave_run.ServeLeaveStep.{ServeLeaveStep}
use Rattle.codec_payload_server_runs.specs.declared.leave_run.ServeLeaveStep.TheVariants as steps
use Rattle.codec_payload_server_runs.specs.declared.run.ServedRun.{ServedRun}

abbrev pub serving_of : Sending → Forward → Receiver → Session → ServedRun → Serving Hops
serving_of sending forwarder receiver server run = record { behind = hops_of sending forwarder receiver run.run; server = server; answers = run.answers.items }

-- before any step
abbrev pub begins_serving_leaving_out : Sending → Forward → Receiver → Session → Serving Hops
begins_serving_leaving_out sending forwarder receiver server = record { behind = begins_forwarding sending forwarder receiver; server = server; answers = [] }

abbrev pub hops_in : Hops → Hops
hops_in s = s

-- a datagram comes to the forwarder, to be forwarded or to be left out
abbrev pub PassesOrIsLeftOut : (is_plain : Bool) → (time : ℕ) → (datagram : List ℕ) → Hops → Hops → Type 0
PassesOrIsLeftOut true time datagram s t = Comes (packet_in (Some datagram)) time s t
PassesOrIsLeftOut false time datagram s t =
    MatchOption (packet_in (Some datagram)) (t ≡ s) (λ packet.
    (answer : Forwarded) × (bytes : List ℕ) × (forwarder : Forward) × Leaves packet s.forwarder answer bytes forwarder
    × (t ≡ record s { forwarder = forwarder; written = s.written ++ filled_by answer bytes; answers = s.answers ++ answer ∷ [] }))

-- a step of a run with a forwarder, which leaves out what comes to it, unless the step is plain
abbrev pub left_as : ForwardStep → (is_plain : Bool) → LeaveStep
left_as (plain.Send i) is_plain = leaving.Plain (plain.Send i)
left_as (plain.Forward k now) true = leaving.Plain (plain.Forward k now)
left_as (plain.Forward k now) false = leaving.LeaveOut k
left_as (plain.Deliver j now) is_plain = leaving.Plain (plain.Deliver j now)
left_as (plain.Pop now) is_plain = leaving.Plain (plain.Pop now)
left_as plain.Finish is_plain = leaving.Plain plain.Finish

abbrev pub step_of : ServeLeaveStep → ServingStep LeaveStep
step_of (steps.Plain step) = serves true step
step_of (steps.LeaveOut step) = serves false step

-- one step
abbrev pub DoesLeavingOut : OriginalStream → List Sample → ServingStep LeaveStep → Serving Hops → Serving Hops → Type 0
DoesLeavingOut stream samples step s t = DoesServing hops_in PassesOrIsLeftOut left_as (DoesLeaveStep samples) stream step s t

abbrev pub DoesServeLeaveStep : OriginalStream → List Sample → ServeLeaveStep → Serving Hops → Serving Hops → Type 0
DoesServeLeaveStep stream samples step s t = DoesLeavingOut stream samples (step_of step) s t

-- the steps, in order
abbrev pub ServeLeaveRuns : OriginalStream → List Sample → List ServeLeaveStep → Serving Hops → Serving Hops → Type 0
ServeLeaveRuns stream samples all_steps s t = Follow (DoesServeLeaveStep stream samples) all_steps s t

-- Memory ran out

-- what the run leaves: the sender, the forwarder and the receiver
pub record Left : Type 0 where
  pub sending : Sending
  pub forwarder : Forward
  pub receiver : Receiver

abbrev pub left_by : Sending → Forward → Receiver → Left
left_by sending forwarder receiver = record { sending = sending; forwarder = forwarder; receiver = receiver }

-- they are as before
abbrev pub StaysAll : Left → Hops → Type 0
StaysAll left s = (left.sending ≡ s.wire.sending) × (left.forwarder ≡ s.forwarder) × (left.receiver ≡ s.wire.session)

-- also while a datagram came to the forwarder
abbrev pub StopsPassing : Left → (is_plain : Bool) → (datagram : List ℕ) → Hops → Type 0
StopsPassing left is_plain datagram s = StaysAll left s

-- for a step
abbrev pub StopsLeavingOut : OriginalStream → List Sample → ServingStep LeaveStep → Serving Hops → Left → Session → Type 0
StopsLeavingOut stream samples step s left server =
    ServingStopsAt hops_in (StaysAll left) (StopsPassing left) left_as (λ (it : LeaveStep) (x : Hops). LeaveStopsAt samples it x left.sending left.forwarder left.receiver) stream step s server

abbrev pub ServeLeaveStopsAt : OriginalStream → List Sample → ServeLeaveStep → Serving Hops → Left → Session → Type 0
ServeLeaveStopsAt stream samples step s left server = StopsLeavingOut stream samples (step_of step) s left server

-- the steps, in order, up to a step for which memory ran out; what the run and the session are after it
abbrev pub ServeLeaveStops : OriginalStream → List Sample → List ServeLeaveStep → Serving Hops → Left → Session → Type 0
ServeLeaveStops stream samples all_steps s left server =
    FollowUntil (DoesServeLeaveStep stream samples) (λ (step : ServeLeaveStep) (x : Serving Hops). ServeLeaveStopsAt stream samples step x left server) all_steps s
