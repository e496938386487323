-- What a run of a media server that leaves packets out states, from the theorems on runs of a session and on runs whose forwarder leaves
-- packets out.
use Rattle.std.proofs.Common.{◌≡◌, ◌∙◌, refl, sym, ap, subst, ℕ, List, [], ◌∷◌, ◌++◌, Bool, true, false, Option, Some, None, MatchOption, map}
use Rattle.std.specs.Prelude.{slice_get}
use Rattle.codec_payload_payloader.specs.Sending.{Sample}
use Rattle.codec_payload_receiver.specs.Sessions.{Session as Receiver}
use Rattle.codec_payload_rtp.specs.RtpPackets.{Packet}
use Rattle.codec_payload_sending.specs.Senders.{Sending}
use Rattle.codec_payload_sending_forward.specs.Forwarding.{Forward, Leaves}
use Rattle.codec_payload_sending_forward.specs.declared.forwarder.Forwarded.{Forwarded}
use Rattle.codec_payload_sending_history.specs.declared.original.OriginalStream.{OriginalStream}
use Rattle.codec_payload_session.specs.Ports.{Session}
use Rattle.codec_payload_forward_runs.proofs.LeaveLemmas.{forward_leaving_out, release_leaving_out}
use Rattle.codec_payload_forward_runs.specs.ForwardRuns.{Comes, DoesForwardStep, Hops, packet_in}
use Rattle.codec_payload_forward_runs.specs.LeaveRuns.{DoesLeaveStep, LeaveRuns, filled_by}
use Rattle.codec_payload_forward_runs.specs.declared.leave_run.LeaveStep.{LeaveStep}
use Rattle.codec_payload_forward_runs.specs.declared.run.ForwardStep.{ForwardStep}
use Rattle.codec_payload_forward_runs.specs.declared.run.ForwardStep.TheVariants as plain
use Rattle.codec_payload_server_runs.proofs.ServeLemmas.{Keeps, keeps_comes, keeps_same}
use Rattle.codec_payload_server_runs.proofs.ServingLemmas.{AllKeep, IsBehind, follows, is_hop}
use Rattle.codec_payload_server_runs.proofs.ServingSessions.{as_session}
use Rattle.codec_payload_server_runs.specs.ServeLeaveReleases.{ReleasesServedLeavingOut, ServesKept, ServesLeavingAsSession, UnwrapsLeaving, leaving_steps_of}
use Rattle.codec_payload_server_runs.specs.ServeLeaveRuns.{DoesLeavingOut, PassesOrIsLeftOut, ServeLeaveRuns, begins_serving_leaving_out, hops_in, left_as, step_of}
use Rattle.codec_payload_server_runs.specs.Serving.{Follow, Serving}
use Rattle.codec_payload_server_runs.specs.declared.leave_run.ServeLeaveStep.{ServeLeaveStep}
use Rattle.codec_payload_server_runs.specs.declared.leave_run.ServeLeaveStep.TheVariants as steps

module _ (stream : OriginalStream) (samples : List Sample) where
  -- a datagram that passes on is the datagram of the step
  passes_is : (m : Bool) (k time : ℕ) (datagram : List ℕ) (s t : Hops) → slice_get s.wire.datagrams k ≡ Some datagram → PassesOrIsLeftOut m time datagram s t
      → DoesLeaveStep samples (left_as (plain.Forward k time) m) s t
  passes_is true k time datagram s t there passed = subst (λ (o : Option (List ℕ)). Comes (packet_in o) time s t) (sym there) passed
  passes_is false k time datagram s t there passed =
      subst
      (λ (o : Option (List ℕ)).
      MatchOption (packet_in o) (t ≡ s) (λ packet.
      (answer : Forwarded) × (bytes : List ℕ) × (forwarder : Forward) × Leaves packet s.forwarder answer bytes forwarder
      × (t ≡ record s { forwarder = forwarder; written = s.written ++ filled_by answer bytes; answers = s.answers ++ answer ∷ [] })))
      (sym there) passed

  keeps_left : (o : Option Packet) (s t : Hops)
      → MatchOption o (t ≡ s) (λ packet.
      (answer : Forwarded) × (bytes : List ℕ) × (forwarder : Forward) × Leaves packet s.forwarder answer bytes forwarder
      × (t ≡ record s { forwarder = forwarder; written = s.written ++ filled_by answer bytes; answers = s.answers ++ answer ∷ [] }))
      → Keeps s t
  keeps_left None s t same = keeps_same s t same
  keeps_left (Some p) s t done =
      record { sends = ap (λ (x : Hops). x.wire.sends) done.4; datagrams = ap (λ (x : Hops). x.wire.datagrams) done.4; sending = ap (λ (x : Hops). x.wire.sending) done.4 }

  passes_keep : (m : Bool) (time : ℕ) (datagram : List ℕ) (s t : Hops) → PassesOrIsLeftOut m time datagram s t → Keeps s t
  passes_keep true time datagram s t passed = keeps_comes (packet_in (Some datagram)) time s t passed
  passes_keep false time datagram s t passed = keeps_left (packet_in (Some datagram)) s t passed

  hop_is : (step : ForwardStep) (m : Bool) (s t : Hops) → is_hop step ≡ true → DoesLeaveStep samples (left_as step m) s t → DoesForwardStep samples step s t
  hop_is (plain.Send i) m s t hop does = does
  hop_is (plain.Forward k now) m s t hop does = absurd (cc)
  hop_is (plain.Deliver j now) m s t hop does = does
  hop_is (plain.Pop now) m s t hop does = does
  hop_is plain.Finish m s t hop does = does

  behind : IsBehind hops_in PassesOrIsLeftOut left_as (DoesLeaveStep samples) stream samples
  behind = record { passes = passes_is; keeps = passes_keep; hops = hop_is }

  all_keep : (all_steps : List ServeLeaveStep) → AllKeep hops_in PassesOrIsLeftOut left_as (DoesLeaveStep samples) stream samples (map step_of all_steps)
  all_keep [] = tt
  all_keep (steps.Plain step ∷ later) = all_keep later
  all_keep (steps.LeaveOut step ∷ later) = all_keep later

  -- A whole run

  in_order : (all_steps : List ServeLeaveStep) (s t : Serving Hops) → ServeLeaveRuns stream samples all_steps s t → Follow (DoesLeavingOut stream samples) (map step_of all_steps) s t
  in_order [] s t run = run
  in_order (step ∷ later) s t run = (run.0, run.1, in_order later run.0 t run.2)

  leaving_run : (all_steps : List LeaveStep) (s t : Hops) → Follow (DoesLeaveStep samples) all_steps s t → LeaveRuns samples all_steps s t
  leaving_run [] s t run = run
  leaving_run (step ∷ later) s t run = (run.0, run.1, leaving_run later run.0 t run.2)

  module _ (all_steps : List ServeLeaveStep) (sender : Sending) (forwarder : Forward) (receiver : Receiver) (server : Session) (t : Serving Hops)
      (run : ServeLeaveRuns stream samples all_steps (begins_serving_leaving_out sender forwarder receiver server) t) where
    abbrev start : Serving Hops
    start = begins_serving_leaving_out sender forwarder receiver server

    pub leaving : UnwrapsLeaving stream all_steps start → LeaveRuns samples (leaving_steps_of stream samples all_steps t) start.behind t.behind
    leaving own =
        leaving_run (leaving_steps_of stream samples all_steps t) start.behind t.behind
        (follows hops_in PassesOrIsLeftOut left_as (DoesLeaveStep samples) stream samples behind (map step_of all_steps) start t (all_keep all_steps) refl refl refl (in_order all_steps start t run) own)

    pub packets_served_leaving_out : ServesKept stream samples all_steps start t
    packets_served_leaving_out own = forward_leaving_out samples (leaving_steps_of stream samples all_steps t) sender forwarder receiver t.behind (leaving own)

    pub release_served_leaving_out : ReleasesServedLeavingOut stream samples all_steps start t
    release_served_leaving_out own = release_leaving_out samples (leaving_steps_of stream samples all_steps t) sender forwarder receiver t.behind (leaving own)

    pub served_leaving_session : ServesLeavingAsSession stream samples all_steps start t
    served_leaving_session =
        as_session hops_in PassesOrIsLeftOut left_as (DoesLeaveStep samples) stream samples behind (map step_of all_steps) start t (all_keep all_steps) refl refl refl (in_order all_steps start t run)
