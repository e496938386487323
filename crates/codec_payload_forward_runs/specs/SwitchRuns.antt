-- The steps of a run with two sources, whose datagrams come to a viewer through one forwarder.
use Rattle.std.specs.Prelude.{◌≡◌, ℕ, List, [], ◌∷◌, ◌⊎◌, Some}
use Rattle.codec_payload_payloader.specs.Sending.{Sample}
use Rattle.codec_payload_receiver.specs.Sessions.{Session}
use Rattle.codec_payload_sending.specs.Senders.{Sending}
use Rattle.codec_payload_sending_forward.specs.Forwarding.{Forward}
use Rattle.codec_payload_datagram_runs.specs.WireRuns.{bytes_in}
use Rattle.codec_payload_datagram_runs.specs.declared.run.SentSample.{SentSample}
use Rattle.codec_payload_forward_runs.specs.ForwardRuns.{DoesForwardStep, ForwardStopsAt, Hops, begins_forwarding, hops_of}
use Rattle.codec_payload_forward_runs.specs.declared.switch_run.Source.TheVariants as sources
use Rattle.codec_payload_forward_runs.specs.declared.switch_run.SwitchStep.{SwitchStep}
use Rattle.codec_payload_forward_runs.specs.declared.switch_run.SwitchStep.TheVariants as steps
use Rattle.codec_payload_forward_runs.specs.declared.switch_run.SwitchedRun.{SwitchedRun}

-- a run with the first source; and the second source: its sender, its datagrams so far, and the results of its sends
pub record Switched : Type 0 where
  pub hops : Hops
  pub second : Sending
  pub datagrams : List (List ℕ)
  pub sends : List SentSample

abbrev pub switched_of : (first second : Sending) → Forward → Session → SwitchedRun → Switched
switched_of first second forwarder session run = record {
  hops = hops_of first forwarder session run.run;
  second = second;
  datagrams = bytes_in run.second.datagrams.items;
  sends = run.second.sends.items;
}

-- before any step
abbrev pub begins_switching : (first second : Sending) → Forward → Session → Switched
begins_switching first second forwarder session = record { hops = begins_forwarding first forwarder session; second = second; datagrams = []; sends = [] }

-- the same, with the sources exchanged
abbrev pub swapped : Switched → Switched
swapped s = record {
  hops = record s.hops { wire = record s.hops.wire { sending = s.second; datagrams = s.datagrams; sends = s.sends } };
  second = s.hops.wire.sending;
  datagrams = s.hops.wire.datagrams;
  sends = s.hops.wire.sends;
}

-- One step. With a source it is a step of a run with a forwarder, of which the other source knows nothing
abbrev pub DoesSwitchStep : List Sample → SwitchStep → Switched → Switched → Type 0
DoesSwitchStep samples (steps.Of sources.First step) s t = (hops : Hops) × DoesForwardStep samples step s.hops hops × (t ≡ record s { hops = hops })
DoesSwitchStep samples (steps.Of sources.Second step) s t = (hops : Hops) × DoesForwardStep samples step (swapped s).hops hops × (t ≡ swapped (record (swapped s) { hops = hops }))
DoesSwitchStep samples (steps.Want ssrc) s t = t ≡ record s { hops = record s.hops { forwarder = record s.hops.forwarder { wanted = Some ssrc } } }

-- the steps, in order
abbrev pub SwitchRuns : List Sample → List SwitchStep → Switched → Switched → Type 0
SwitchRuns samples [] s t = t ≡ s
SwitchRuns samples (step ∷ later) s t = (mid : Switched) × DoesSwitchStep samples step s mid × SwitchRuns samples later mid t

-- memory ran out for a step; the other source is as before
abbrev pub SwitchStopsAt : List Sample → SwitchStep → Switched → (first second : Sending) → Forward → Session → Type 0
SwitchStopsAt samples (steps.Of sources.First step) s first second forwarder session = (second ≡ s.second) × ForwardStopsAt samples step s.hops first forwarder session
SwitchStopsAt samples (steps.Of sources.Second step) s first second forwarder session =
    (first ≡ s.hops.wire.sending) × ForwardStopsAt samples step (swapped s).hops second forwarder session
SwitchStopsAt samples (steps.Want ssrc) s first second forwarder session = ⊥

-- the steps, in order, up to a step for which memory ran out; the senders, the forwarder and the receiver after it
abbrev pub SwitchStops : List Sample → List SwitchStep → Switched → (first second : Sending) → Forward → Session → Type 0
SwitchStops samples [] s first second forwarder session = ⊥
SwitchStops samples (step ∷ later) s first second forwarder session =
    SwitchStopsAt samples step s first second forwarder session
    ⊎ ((mid : Switched) × DoesSwitchStep samples step s mid × SwitchStops samples later mid first second forwarder session)
