-- What the forwarder of a media server does with a datagram that passes on, from the step of a run whose forwarder leaves packets out.
use Rattle.std.proofs.Common.{◌≡◌, refl, subst, ℕ, List, [], ◌∷◌, ◌++◌, Bool, true, false, Option, Some, MatchOption}
use Rattle.std.specs.Prelude.{slice_get}
use Rattle.codec_payload_payloader.specs.Sending.{Sample}
use Rattle.codec_payload_sending_forward.specs.Forwarding.{Forward, Leaves}
use Rattle.codec_payload_sending_forward.specs.declared.forwarder.Forwarded.{Forwarded}
use Rattle.codec_payload_forward_runs.specs.ForwardRuns.{Comes, Hops, packet_in}
use Rattle.codec_payload_forward_runs.specs.LeaveRuns.{DoesLeaveStep, LeaveStopsAt, filled_by}
use Rattle.codec_payload_forward_runs.specs.declared.leave_run.LeaveStep.{LeaveStep}
use Rattle.codec_payload_forward_runs.specs.declared.leave_run.LeaveStep.TheVariants as leaving
use Rattle.codec_payload_forward_runs.specs.declared.run.ForwardStep.{ForwardStep}
use Rattle.codec_payload_forward_runs.specs.declared.run.ForwardStep.TheVariants as plain
use Rattle.codec_payload_server_runs.proofs.ServingArrivals.{no_forward}
use Rattle.codec_payload_server_runs.specs.ServeLeaveRuns.{Left, PassesOrIsLeftOut, StopsPassing, left_as}
use Rattle.codec_payload_server_runs.specs.Serving.{hop_of}
use Rattle.codec_payload_server_runs.specs.declared.run.ServeStep.{ServeStep}

pub passes_of : (samples : List Sample) (m : Bool) (k time : ℕ) (datagram : List ℕ) (s t : Hops) → slice_get s.wire.datagrams k ≡ Some datagram
    → DoesLeaveStep samples (left_as (plain.Forward k time) m) s t → PassesOrIsLeftOut m time datagram s t
passes_of samples true k time datagram s t there does = subst (λ (o : Option (List ℕ)). Comes (packet_in o) time s t) there does
passes_of samples false k time datagram s t there does =
    subst
    (λ (o : Option (List ℕ)).
    MatchOption (packet_in o) (t ≡ s) (λ packet.
    (answer : Forwarded) × (bytes : List ℕ) × (forwarder : Forward) × Leaves packet s.forwarder answer bytes forwarder
    × (t ≡ record s { forwarder = forwarder; written = s.written ++ filled_by answer bytes; answers = s.answers ++ answer ∷ [] })))
    there does

pub stops_of : (samples : List Sample) (m : Bool) (k time : ℕ) (datagram : List ℕ) (s : Hops) (left : Left)
    → LeaveStopsAt samples (left_as (plain.Forward k time) m) s left.sending left.forwarder left.receiver → StopsPassing left m datagram s
stops_of samples true k time datagram s left same = same
stops_of samples false k time datagram s left same = same

-- a step that the session does not see is the same, whether packets are left out in it or not
pub hop_step : (m : Bool) (step : ServeStep) (f : ForwardStep) → hop_of step ≡ Some f → leaving.Plain f ≡ left_as f m
hop_step m step (plain.Send i) is = refl
hop_step true step (plain.Forward k now) is = refl
hop_step false step (plain.Forward k now) is = absurd (no_forward step k now is)
hop_step m step (plain.Deliver j now) is = refl
hop_step m step (plain.Pop now) is = refl
hop_step m step plain.Finish is = refl
