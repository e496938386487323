-- The steps of a run of a media server with a store: what its session takes as one of the stream comes to the store, and to the forwarder
-- if the viewer has joined. The forwarder writes packets of the store again.
use Rattle.std.specs.Prelude.{◌≡◌, ℕ, Bool, true, false, List, [], ◌∷◌, ◌⊎◌, Some}
use Rattle.codec_payload_payloader.specs.Sending.{Sample}
use Rattle.codec_payload_receiver.specs.Sessions.{Session as Receiver}
use Rattle.codec_payload_sending.specs.Senders.{Sending}
use Rattle.codec_payload_sending_forward.specs.Forwarding.{Forward}
use Rattle.codec_payload_sending_history.specs.Packets.{Past}
use Rattle.codec_payload_sending_history.specs.declared.original.OriginalStream.{OriginalStream}
use Rattle.codec_payload_session.specs.Ports.{Session}
use Rattle.codec_payload_forward_runs.specs.ForwardRuns.{Comes, Hops, packet_in}
use Rattle.codec_payload_forward_runs.specs.StoreRuns.{DoesStoreStep, KeepsPacket, StoreStopsAt, Stored, begins_with_store, stored_of}
use Rattle.codec_payload_forward_runs.specs.declared.run.ForwardStep.{ForwardStep}
use Rattle.codec_payload_forward_runs.specs.declared.run.ForwardStep.TheVariants as plain
use Rattle.codec_payload_forward_runs.specs.declared.store_run.StoreStep.{StoreStep}
use Rattle.codec_payload_forward_runs.specs.declared.store_run.StoreStep.TheVariants as stored
use Rattle.codec_payload_server_runs.specs.Serving.{DoesServing, Follow, FollowUntil, Serving, ServingStep, ServingStopsAt, serves, unseen}
use Rattle.codec_payload_server_runs.specs.declared.store_run.ServeStoreStep.{ServeStoreStep}
use Rattle.codec_payload_server_runs.specs.declared.store_run.ServeStoreStep.TheVariants as steps
use Rattle.codec_payload_server_runs.specs.declared.store_run.ServedStoreRun.{ServedStoreRun}

abbrev pub served_store_of : Sending → Forward → Receiver → Past → Session → ServedStoreRun → Serving Stored
served_store_of sending forwarder receiver store server run =
    record { behind = stored_of sending forwarder receiver store run.run; server = server; answers = run.answers.items }

-- before any step
abbrev pub begins_serving_with_store : Sending → Forward → Receiver → Past → Session → Serving Stored
begins_serving_with_store sending forwarder receiver store server = record { behind = begins_with_store sending forwarder receiver store; server = server; answers = [] }

abbrev pub hops_in : Stored → Hops
hops_in s = s.hops

-- a datagram comes to the store, and then to the forwarder; before the viewer joins it comes to the store alone
abbrev pub PassesToStore : (is_plain : Bool) → (time : ℕ) → (datagram : List ℕ) → Stored → Stored → Type 0
PassesToStore true time datagram s t =
    (store : Past) × (hops : Hops) × KeepsPacket (Some datagram) s.store store × Comes (packet_in (Some datagram)) time s.hops hops × (t ≡ record s { hops = hops; store = store })
PassesToStore false time datagram s t = (store : Past) × KeepsPacket (Some datagram) s.store store × (t ≡ record s { store = store })

-- a step of a run with a forwarder, in which the store keeps what comes to the forwarder; before the viewer joins it keeps that alone
abbrev pub stored_as : ForwardStep → (is_plain : Bool) → StoreStep
stored_as (plain.Send i) is_plain = stored.Plain (plain.Send i)
stored_as (plain.Forward k now) true = stored.Plain (plain.Forward k now)
stored_as (plain.Forward k now) false = stored.Keep k
stored_as (plain.Deliver j now) is_plain = stored.Plain (plain.Deliver j now)
stored_as (plain.Pop now) is_plain = stored.Plain (plain.Pop now)
stored_as plain.Finish is_plain = stored.Plain plain.Finish

abbrev pub step_of : ServeStoreStep → ServingStep StoreStep
step_of (steps.Plain step) = serves true step
step_of (steps.Keep step) = serves false step
step_of (steps.Request number) = unseen (stored.Request number)
step_of (steps.DeliverAgain j now) = unseen (stored.DeliverAgain j now)

-- one step
abbrev pub DoesWithStore : OriginalStream → List Sample → ServingStep StoreStep → Serving Stored → Serving Stored → Type 0
DoesWithStore stream samples step s t = DoesServing hops_in PassesToStore stored_as (DoesStoreStep samples) stream step s t

abbrev pub DoesServeStoreStep : OriginalStream → List Sample → ServeStoreStep → Serving Stored → Serving Stored → Type 0
DoesServeStoreStep stream samples step s t = DoesWithStore stream samples (step_of step) s t

-- the steps, in order
abbrev pub ServeStoreRuns : OriginalStream → List Sample → List ServeStoreStep → Serving Stored → Serving Stored → Type 0
ServeStoreRuns stream samples all_steps s t = Follow (DoesServeStoreStep stream samples) all_steps s t

-- Memory ran out

-- what the run leaves: the sender, the forwarder, the receiver and the store
pub record Left : Type 0 where
  pub sending : Sending
  pub forwarder : Forward
  pub receiver : Receiver
  pub store : Past

abbrev pub left_by : Sending → Forward → Receiver → Past → Left
left_by sending forwarder receiver store = record { sending = sending; forwarder = forwarder; receiver = receiver; store = store }

-- sender, forwarder and receiver are as before
abbrev pub StaysWithout : Left → Stored → Type 0
StaysWithout left s = (left.sending ≡ s.hops.wire.sending) × (left.forwarder ≡ s.hops.forwarder) × (left.receiver ≡ s.hops.wire.session)

-- and the store is
abbrev pub StaysAll : Left → Stored → Type 0
StaysAll left s = (left.sending ≡ s.hops.wire.sending) × (left.forwarder ≡ s.hops.forwarder) × (left.receiver ≡ s.hops.wire.session) × (left.store ≡ s.store)

-- for the store, which is then as before; or for the forwarder, after the store has kept the datagram
abbrev pub StopsPassing : Left → (is_plain : Bool) → (datagram : List ℕ) → Stored → Type 0
StopsPassing left true datagram s = StaysAll left s ⊎ (KeepsPacket (Some datagram) s.store left.store × StaysWithout left s)
StopsPassing left false datagram s = StaysAll left s

-- for a step
abbrev pub StopsWithStore : OriginalStream → List Sample → ServingStep StoreStep → Serving Stored → Left → Session → Type 0
StopsWithStore stream samples step s left server =
    ServingStopsAt hops_in (StaysAll left) (StopsPassing left) stored_as (λ (it : StoreStep) (x : Stored). StoreStopsAt samples it x left.sending left.forwarder left.receiver left.store) stream step s
    server

abbrev pub ServeStoreStopsAt : OriginalStream → List Sample → ServeStoreStep → Serving Stored → Left → Session → Type 0
ServeStoreStopsAt stream samples step s left server = StopsWithStore stream samples (step_of step) s left server

-- the steps, in order, up to a step for which memory ran out; what the run and the session are after it
abbrev pub ServeStoreStops : OriginalStream → List Sample → List ServeStoreStep → Serving Stored → Left → Session → Type 0
ServeStoreStops stream samples all_steps s left server =
    FollowUntil (DoesServeStoreStep stream samples) (λ (step : ServeStoreStep) (x : Serving Stored). ServeStoreStopsAt stream samples step x left server) all_steps s
