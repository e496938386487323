-- A forwarder keeps its settings, whatever comes to it in a run.
use Rattle.std.proofs.Common.{◌≡◌, ◌∙◌, ap, ℕ, List, [], ◌∷◌, ◌++◌, inl, inr, Option, Some, None, MatchOption}
use Rattle.std.specs.Prelude.{slice_get}
use Rattle.codec_payload_payloader.specs.Sending.{Sample}
use Rattle.codec_payload_receiver.specs.Sessions.{Session}
use Rattle.codec_payload_rtp.specs.RtpPackets.{Packet}
use Rattle.codec_payload_sending_forward.specs.Forwarding.{Forward, Forwards, Leaves}
use Rattle.codec_payload_sending_forward.specs.declared.forwarder.Forwarded.{Forwarded}
use Rattle.codec_payload_sending_forward.specs.declared.forwarder.Forwarded.TheVariants as answers
use Rattle.codec_payload_datagram_runs.specs.WireRuns.{Delivers, Receipt}
use Rattle.codec_payload_forward_runs.specs.ForwardRuns.{Comes, DoesForwardStep, ForwardRuns, Hops, packet_in}
use Rattle.codec_payload_forward_runs.specs.LeaveRuns.{DoesLeaveStep, LeaveRuns, filled_by}
use Rattle.codec_payload_forward_runs.specs.declared.leave_run.LeaveStep.{LeaveStep}
use Rattle.codec_payload_forward_runs.specs.declared.leave_run.LeaveStep.TheVariants as leaving
use Rattle.codec_payload_forward_runs.specs.declared.run.ForwardStep.{ForwardStep}
use Rattle.codec_payload_forward_runs.specs.declared.run.ForwardStep.TheVariants as steps

abbrev Keeps : Forward → Forward → Type 0
Keeps f t = t.settings ≡ f.settings

same : (f t : Forward) → t ≡ f → Keeps f t
same f t is = ap (λ (x : Forward). x.settings) is

forwards_keeps : (now : ℕ) (p : Packet) (f : Forward) (answer : Forwarded) (bytes : List ℕ) (t : Forward) → Forwards now p f answer bytes t → Keeps f t
forwards_keeps now p f answers.Began bytes t does = ap (λ (x : Forward). x.settings) does.4
forwards_keeps now p f answers.Written bytes t does = ap (λ (x : Forward). x.settings) does.2
forwards_keeps now p f answers.NoKeyframe bytes t does = same f t does.3.1
forwards_keeps now p f answers.OtherSource bytes t does = same f t does.2.1
forwards_keeps now p f answers.TooOld bytes t does = same f t does.2.1
forwards_keeps now p f answers.LeftOut bytes t does = same f t does.2.1
forwards_keeps now p f answers.Filled bytes t does = absurd does

leaves_keeps : (p : Packet) (f : Forward) (answer : Forwarded) (bytes : List ℕ) (t : Forward) → Leaves p f answer bytes t → Keeps f t
leaves_keeps p f answers.LeftOut bytes t (on, none, inl stays) = same f t stays.1
leaves_keeps p f answers.LeftOut bytes t (on, none, inr goes) = ap (λ (x : Forward). x.settings) goes.1
leaves_keeps p f answers.Filled bytes t does = same f t does.3
leaves_keeps p f answers.OtherSource bytes t does = same f t does.1.1
leaves_keeps p f answers.TooOld bytes t does = same f t does.2.1
leaves_keeps p f answers.Began bytes t does = absurd does
leaves_keeps p f answers.Written bytes t does = absurd does
leaves_keeps p f answers.NoKeyframe bytes t does = absurd does

abbrev KeepsHops : Hops → Hops → Type 0
KeepsHops s t = Keeps s.forwarder t.forwarder

same_hops : (s t : Hops) → t ≡ s → KeepsHops s t
same_hops s t is = ap (λ (x : Hops). x.forwarder.settings) is

comes_keeps : (o : Option Packet) (now : ℕ) (s t : Hops) → Comes o now s t → KeepsHops s t
comes_keeps None now s t is = same_hops s t is
comes_keeps (Some p) now s t comes = ap (λ (x : Hops). x.forwarder.settings) comes.4 ∙ forwards_keeps now p s.forwarder comes.0 comes.1 comes.2 comes.3

module _ (samples : List Sample) where
  step_keeps : (step : ForwardStep) (s t : Hops) → DoesForwardStep samples step s t → KeepsHops s t
  step_keeps (steps.Send i) s t does = ap (λ (x : Hops). x.forwarder.settings) does.2
  step_keeps (steps.Forward k now) s t does = comes_keeps (packet_in (slice_get s.wire.datagrams k)) now s t does
  step_keeps (steps.Deliver j now) s t does = by (slice_get s.written j) does
    where
      by : (o : Option (List ℕ)) → MatchOption o (t ≡ s) (λ bytes. (receipt : Receipt) × (session : Session) × Delivers now bytes s.wire.session receipt session
          × (t ≡ record s { wire = record s.wire { session = session; receipts = s.wire.receipts ++ receipt ∷ [] } })) → KeepsHops s t
      by None is = same_hops s t is
      by (Some bytes) done = ap (λ (x : Hops). x.forwarder.settings) done.3
  step_keeps (steps.Pop now) s t does = ap (λ (x : Hops). x.forwarder.settings) does.2
  step_keeps steps.Finish s t does = ap (λ (x : Hops). x.forwarder.settings) does.2

  pub run_keeps : (all_steps : List ForwardStep) (s t : Hops) → ForwardRuns samples all_steps s t → t.forwarder.settings ≡ s.forwarder.settings
  run_keeps [] s t run = same_hops s t run
  run_keeps (step ∷ later) s t run = run_keeps later run.0 t run.2 ∙ step_keeps step s run.0 run.1

  leave_step_keeps : (step : LeaveStep) (s t : Hops) → DoesLeaveStep samples step s t → KeepsHops s t
  leave_step_keeps (leaving.Plain step) s t does = step_keeps step s t does
  leave_step_keeps (leaving.LeaveOut k) s t does = by (packet_in (slice_get s.wire.datagrams k)) does
    where
      by : (o : Option Packet) → MatchOption o (t ≡ s) (λ packet. (answer : Forwarded) × (bytes : List ℕ) × (forwarder : Forward) × Leaves packet s.forwarder answer bytes forwarder
          × (t ≡ record s { forwarder = forwarder; written = s.written ++ filled_by answer bytes; answers = s.answers ++ answer ∷ [] })) → KeepsHops s t
      by None is = same_hops s t is
      by (Some p) done = ap (λ (x : Hops). x.forwarder.settings) done.4 ∙ leaves_keeps p s.forwarder done.0 done.1 done.2 done.3

  pub leave_run_keeps : (all_steps : List LeaveStep) (s t : Hops) → LeaveRuns samples all_steps s t → t.forwarder.settings ≡ s.forwarder.settings
  leave_run_keeps [] s t run = same_hops s t run
  leave_run_keeps (step ∷ later) s t run = leave_run_keeps later run.0 t run.2 ∙ leave_step_keeps step s run.0 run.1
