-- What a run of a media server with a store states, from the theorems on runs of a session and on runs with a forwarder and a store.
use Rattle.std.proofs.Common.{◌≡◌, ◌∙◌, refl, sym, ap, subst, ℕ, List, [], ◌∷◌, ◌++◌, Bool, true, false, Option, Some, None, MatchOption, map}
use Rattle.std.specs.Prelude.{slice_get}
use Rattle.codec_payload_base.specs.declared.wire.Ticks.{Ticks}
use Rattle.codec_payload_payloader.specs.Sending.{Sample}
use Rattle.codec_payload_receiver.specs.Sessions.{Session as Receiver}
use Rattle.codec_payload_sending.specs.Senders.{Sending}
use Rattle.codec_payload_sending_forward.specs.Forwarding.{Forward}
use Rattle.codec_payload_sending_history.specs.Packets.{Past}
use Rattle.codec_payload_sending_history.specs.declared.original.OriginalStream.{OriginalStream}
use Rattle.codec_payload_session.specs.Ports.{Session}
use Rattle.codec_payload_datagram_runs.specs.WireRuns.{Delivers, Receipt}
use Rattle.codec_payload_forward_runs.proofs.StoreReleaseLemmas.{release_with_store}
use Rattle.codec_payload_forward_runs.specs.ForwardRuns.{Comes, DoesForwardStep, Hops, packet_in}
use Rattle.codec_payload_forward_runs.specs.StoreRuns.{DoesStoreStep, KeepsPacket, StoreRuns, Stored}
use Rattle.codec_payload_forward_runs.specs.declared.run.ForwardStep.{ForwardStep}
use Rattle.codec_payload_forward_runs.specs.declared.run.ForwardStep.TheVariants as plain
use Rattle.codec_payload_forward_runs.specs.declared.store_run.StoreStep.{StoreStep}
use Rattle.codec_payload_forward_runs.specs.declared.store_run.StoreStep.TheVariants as stored
use Rattle.codec_payload_server_runs.proofs.ServeLemmas.{Keeps, keeps_comes, keeps_same}
use Rattle.codec_payload_server_runs.proofs.ServingLemmas.{AllKeep, IsBehind, follows, is_hop}
use Rattle.codec_payload_server_runs.proofs.ServingSessions.{as_session}
use Rattle.codec_payload_server_runs.specs.ServeStoreReleases.{ReleasesServedWithStore, ServesStoreAsSession, UnwrapsStored, stored_steps_of}
use Rattle.codec_payload_server_runs.specs.ServeStoreRuns.{DoesServeStoreStep, DoesWithStore, PassesToStore, ServeStoreRuns, begins_serving_with_store, hops_in, step_of, stored_as}
use Rattle.codec_payload_server_runs.specs.Serving.{Follow, Serving}
use Rattle.codec_payload_server_runs.specs.declared.store_run.ServeStoreStep.{ServeStoreStep}
use Rattle.codec_payload_server_runs.specs.declared.store_run.ServeStoreStep.TheVariants as steps

module _ (stream : OriginalStream) (samples : List Sample) where
  -- a datagram that passes on is the datagram of the step
  passes_is : (m : Bool) (k time : ℕ) (datagram : List ℕ) (s t : Stored) → slice_get s.hops.wire.datagrams k ≡ Some datagram → PassesToStore m time datagram s t
      → DoesStoreStep samples (stored_as (plain.Forward k time) m) s t
  passes_is true k time datagram s t there passed = (
    passed.0,
    passed.1,
    subst (λ (o : Option (List ℕ)). KeepsPacket o s.store passed.0) (sym there) passed.2,
    subst (λ (o : Option (List ℕ)). Comes (packet_in o) time s.hops passed.1) (sym there) passed.3,
    passed.4,
  )
  passes_is false k time datagram s t there passed = (passed.0, subst (λ (o : Option (List ℕ)). KeepsPacket o s.store passed.0) (sym there) passed.1, passed.2)

  passes_keep : (m : Bool) (time : ℕ) (datagram : List ℕ) (s t : Stored) → PassesToStore m time datagram s t → Keeps s.hops t.hops
  passes_keep true time datagram s t passed =
      subst (Keeps s.hops) (sym (ap (λ (x : Stored). x.hops) passed.4)) (keeps_comes (packet_in (Some datagram)) time s.hops passed.1 passed.3)
  passes_keep false time datagram s t passed = keeps_same s.hops t.hops (ap (λ (x : Stored). x.hops) passed.2)

  plain_is : (step : ForwardStep) (s t : Stored) → DoesStoreStep samples (stored.Plain step) s t → DoesForwardStep samples step s.hops t.hops
  plain_is step s t does = subst (DoesForwardStep samples step s.hops) (sym (ap (λ (x : Stored). x.hops) does.4)) does.3

  hop_is : (step : ForwardStep) (m : Bool) (s t : Stored) → is_hop step ≡ true → DoesStoreStep samples (stored_as step m) s t → DoesForwardStep samples step s.hops t.hops
  hop_is (plain.Send i) m s t hop does = plain_is (plain.Send i) s t does
  hop_is (plain.Forward k now) m s t hop does = absurd (cc)
  hop_is (plain.Deliver j now) m s t hop does = plain_is (plain.Deliver j now) s t does
  hop_is (plain.Pop now) m s t hop does = plain_is (plain.Pop now) s t does
  hop_is plain.Finish m s t hop does = plain_is plain.Finish s t does

  behind : IsBehind hops_in PassesToStore stored_as (DoesStoreStep samples) stream samples
  behind = record { passes = passes_is; keeps = passes_keep; hops = hop_is }

  -- requests, and deliveries of what was written again

  keeps_again : (o : Option (List ℕ)) (now : Ticks) (s t : Stored)
      → MatchOption o (t ≡ s) (λ bytes. (receipt : Receipt) × (session : Receiver) × Delivers now bytes s.hops.wire.session receipt session
      × (t ≡ record s { hops = record s.hops { wire = record s.hops.wire { session = session; receipts = s.hops.wire.receipts ++ receipt ∷ [] } } }))
      → Keeps s.hops t.hops
  keeps_again None now s t same = keeps_same s.hops t.hops (ap (λ (x : Stored). x.hops) same)
  keeps_again (Some bytes) now s t done = record {
    sends = ap (λ (x : Stored). x.hops.wire.sends) done.3;
    datagrams = ap (λ (x : Stored). x.hops.wire.datagrams) done.3;
    sending = ap (λ (x : Stored). x.hops.wire.sending) done.3;
  }

  keeps_request : (number : ℕ) (s t : Stored) → DoesStoreStep samples (stored.Request number) s t → Keeps s.hops t.hops
  keeps_request number s t does = record {
    sends = ap (λ (x : Stored). x.hops.wire.sends) does.4;
    datagrams = ap (λ (x : Stored). x.hops.wire.datagrams) does.4;
    sending = ap (λ (x : Stored). x.hops.wire.sending) does.4;
  }

  all_keep : (all_steps : List ServeStoreStep) → AllKeep hops_in PassesToStore stored_as (DoesStoreStep samples) stream samples (map step_of all_steps)
  all_keep [] = tt
  all_keep (steps.Plain step ∷ later) = all_keep later
  all_keep (steps.Keep step ∷ later) = all_keep later
  all_keep (steps.Request number ∷ later) = (keeps_request number, all_keep later)
  all_keep (steps.DeliverAgain j now ∷ later) = (λ s t does. keeps_again (slice_get s.again j) now s t does, all_keep later)

  -- A whole run

  in_order : (all_steps : List ServeStoreStep) (s t : Serving Stored) → ServeStoreRuns stream samples all_steps s t → Follow (DoesWithStore stream samples) (map step_of all_steps) s t
  in_order [] s t run = run
  in_order (step ∷ later) s t run = (run.0, run.1, in_order later run.0 t run.2)

  stored_run : (all_steps : List StoreStep) (s t : Stored) → Follow (DoesStoreStep samples) all_steps s t → StoreRuns samples all_steps s t
  stored_run [] s t run = run
  stored_run (step ∷ later) s t run = (run.0, run.1, stored_run later run.0 t run.2)

  module _ (all_steps : List ServeStoreStep) (sender : Sending) (forwarder : Forward) (receiver : Receiver) (store : Past) (server : Session) (t : Serving Stored)
      (run : ServeStoreRuns stream samples all_steps (begins_serving_with_store sender forwarder receiver store server) t) where
    abbrev start : Serving Stored
    start = begins_serving_with_store sender forwarder receiver store server

    pub storing : UnwrapsStored stream all_steps start → StoreRuns samples (stored_steps_of stream samples all_steps t) start.behind t.behind
    storing own =
        stored_run (stored_steps_of stream samples all_steps t) start.behind t.behind
        (follows hops_in PassesToStore stored_as (DoesStoreStep samples) stream samples behind (map step_of all_steps) start t (all_keep all_steps) refl refl refl (in_order all_steps start t run) own)

    pub release_served_with_store : ReleasesServedWithStore stream samples all_steps start t
    release_served_with_store own = release_with_store samples (stored_steps_of stream samples all_steps t) sender forwarder receiver store t.behind (storing own)

    pub served_store_session : ServesStoreAsSession stream samples all_steps start t
    served_store_session =
        as_session hops_in PassesToStore stored_as (DoesStoreStep samples) stream samples behind (map step_of all_steps) start t (all_keep all_steps) refl refl refl (in_order all_steps start t run)
