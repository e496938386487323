-- A step with the second source: a step with the sources exchanged.
use Rattle.std.proofs.Common.{◌≡◌, ◌∙◌, sym, ap, subst, Result, Ok, Err, List}
use Rattle.std.specs.Prelude.{OnErr, OnOk}
use Rattle.codec_payload_base.specs.declared.error.PacketError.{PacketError}
use Rattle.codec_payload_payloader.specs.Sending.{Sample}
use Rattle.codec_payload_forward_runs.specs.ForwardRuns.{DoesForwardStep, ForwardStopsAt, Hops}
use Rattle.codec_payload_forward_runs.specs.SwitchRuns.{DoesSwitchStep, SwitchStopsAt, Switched, swapped}
use Rattle.codec_payload_forward_runs.specs.declared.run.ForwardStep.{ForwardStep}
use Rattle.codec_payload_forward_runs.specs.declared.switch_run.Source.TheVariants as sources
use Rattle.codec_payload_forward_runs.specs.declared.switch_run.SwitchStep.TheVariants as steps

pub second_done : (samples : List Sample) (step : ForwardStep) (s mid t : Switched) (hops : Hops) (done : Result (Unit {0}) PacketError) → mid ≡ swapped s
    → OnOk done (DoesForwardStep samples step mid.hops hops) → t ≡ swapped (record mid { hops = hops }) → OnOk done (DoesSwitchStep samples (steps.Of sources.Second step) s t)
second_done samples step s mid t hops (Ok _) before does after = (
  hops,
  subst (λ (x : Switched). DoesForwardStep samples step x.hops hops) before does,
  after ∙ ap (λ (x : Switched). swapped (record x { hops = hops })) before,
)
second_done samples step s mid t hops (Err fault) before does after = tt

pub second_stops : (samples : List Sample) (step : ForwardStep) (s mid t : Switched) (hops : Hops) (done : Result (Unit {0}) PacketError) → mid ≡ swapped s
    → OnErr done (ForwardStopsAt samples step mid.hops hops.wire.sending hops.forwarder hops.wire.session) → t ≡ swapped (record mid { hops = hops })
    → OnErr done (SwitchStopsAt samples (steps.Of sources.Second step) s t.hops.wire.sending t.second t.hops.forwarder t.hops.wire.session)
second_stops samples step s mid t hops (Ok _) before stops after = tt
second_stops samples step s mid t hops (Err fault) before stops after = (
  ap (λ (x : Switched). x.hops.wire.sending) after ∙ ap (λ (x : Switched). x.second) before,
  subst (λ (x : Switched). ForwardStopsAt samples step (swapped s).hops x.second x.hops.forwarder x.hops.wire.session) (sym after)
      (subst (λ (x : Switched). ForwardStopsAt samples step x.hops hops.wire.sending hops.forwarder hops.wire.session) before stops),
)
