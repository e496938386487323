-- What the store and the forwarder of a media server do with a datagram that passes on, from the step of a run with both.
use Rattle.std.proofs.Common.{◌≡◌, refl, subst, ℕ, List, inl, inr, Bool, true, false, Option, Some}
use Rattle.std.specs.Prelude.{slice_get}
use Rattle.codec_payload_payloader.specs.Sending.{Sample}
use Rattle.codec_payload_forward_runs.specs.ForwardRuns.{Comes, packet_in}
use Rattle.codec_payload_forward_runs.specs.StoreRuns.{DoesStoreStep, KeepsPacket, StoreStopsAt, Stored}
use Rattle.codec_payload_forward_runs.specs.declared.run.ForwardStep.{ForwardStep}
use Rattle.codec_payload_forward_runs.specs.declared.run.ForwardStep.TheVariants as plain
use Rattle.codec_payload_forward_runs.specs.declared.store_run.StoreStep.{StoreStep}
use Rattle.codec_payload_forward_runs.specs.declared.store_run.StoreStep.TheVariants as stored
use Rattle.codec_payload_server_runs.proofs.ServingArrivals.{no_forward}
use Rattle.codec_payload_server_runs.specs.ServeStoreRuns.{Left, PassesToStore, StopsPassing, stored_as}
use Rattle.codec_payload_server_runs.specs.Serving.{hop_of}
use Rattle.codec_payload_server_runs.specs.declared.run.ServeStep.{ServeStep}

pub passes_of : (samples : List Sample) (m : Bool) (k time : ℕ) (datagram : List ℕ) (s t : Stored) → slice_get s.hops.wire.datagrams k ≡ Some datagram → DoesStoreStep samples (stored_as (plain.Forward k time) m) s t
    → PassesToStore m time datagram s t
passes_of samples true k time datagram s t there does = (
  does.0,
  does.1,
  subst (λ (o : Option (List ℕ)). KeepsPacket o s.store does.0) there does.2,
  subst (λ (o : Option (List ℕ)). Comes (packet_in o) time s.hops does.1) there does.3,
  does.4,
)
passes_of samples false k time datagram s t there does = (does.0, subst (λ (o : Option (List ℕ)). KeepsPacket o s.store does.0) there does.1, does.2)

pub stops_of : (samples : List Sample) (m : Bool) (k time : ℕ) (datagram : List ℕ) (s : Stored) (left : Left) → slice_get s.hops.wire.datagrams k ≡ Some datagram
    → StoreStopsAt samples (stored_as (plain.Forward k time) m) s left.sending left.forwarder left.receiver left.store → StopsPassing left m datagram s
stops_of samples true k time datagram s left there (inl same) = inl same
stops_of samples true k time datagram s left there (inr kept) = inr (subst (λ (o : Option (List ℕ)). KeepsPacket o s.store left.store) there kept.0, kept.1)
stops_of samples false k time datagram s left there same = same

-- a step that the session does not see is the same before and after the viewer joins
pub hop_step : (m : Bool) (step : ServeStep) (f : ForwardStep) → hop_of step ≡ Some f → stored.Plain f ≡ stored_as f m
hop_step m step (plain.Send i) is = refl
hop_step true step (plain.Forward k now) is = refl
hop_step false step (plain.Forward k now) is = absurd (no_forward step k now is)
hop_step m step (plain.Deliver j now) is = refl
hop_step m step (plain.Pop now) is = refl
hop_step m step plain.Finish is = refl
