-- The steps of a run whose forwarder leaves packets out.
use Rattle.std.specs.Prelude.{◌≡◌, ℕ, List, [], ◌∷◌, ◌++◌, ◌⊎◌, MatchOption, slice_get}
use Rattle.codec_payload_payloader.specs.Sending.{Sample}
use Rattle.codec_payload_receiver.specs.Sessions.{Session}
use Rattle.codec_payload_sending.specs.Senders.{Sending}
use Rattle.codec_payload_sending_forward.specs.Forwarding.{Forward, Leaves}
use Rattle.codec_payload_sending_forward.specs.declared.forwarder.Forwarded.{Forwarded}
use Rattle.codec_payload_sending_forward.specs.declared.forwarder.Forwarded.TheVariants as answers
use Rattle.codec_payload_forward_runs.specs.ForwardRuns.{DoesForwardStep, ForwardStopsAt, Hops, packet_in}
use Rattle.codec_payload_forward_runs.specs.declared.leave_run.LeaveStep.{LeaveStep}
use Rattle.codec_payload_forward_runs.specs.declared.leave_run.LeaveStep.TheVariants as steps

-- the packet of padding that was written in the place of a packet that came late, if one was
abbrev pub filled_by : Forwarded → List ℕ → List (List ℕ)
filled_by answers.Began bytes = []
filled_by answers.Written bytes = []
filled_by answers.NoKeyframe bytes = []
filled_by answers.OtherSource bytes = []
filled_by answers.TooOld bytes = []
filled_by answers.LeftOut bytes = []
filled_by answers.Filled bytes = bytes ∷ []

-- one step: a datagram that is left out gets an answer, and a packet of padding may be written
abbrev pub DoesLeaveStep : List Sample → LeaveStep → Hops → Hops → Type 0
DoesLeaveStep samples (steps.Plain step) s t = DoesForwardStep samples step s t
DoesLeaveStep samples (steps.LeaveOut k) s t =
    MatchOption (packet_in (slice_get s.wire.datagrams k)) (t ≡ s) (λ packet.
    (answer : Forwarded) × (bytes : List ℕ) × (forwarder : Forward) × Leaves packet s.forwarder answer bytes forwarder
    × (t ≡ record s { forwarder = forwarder; written = s.written ++ filled_by answer bytes; answers = s.answers ++ answer ∷ [] }))

-- the steps, in order
abbrev pub LeaveRuns : List Sample → List LeaveStep → Hops → Hops → Type 0
LeaveRuns samples [] s t = t ≡ s
LeaveRuns samples (step ∷ later) s t = (mid : Hops) × DoesLeaveStep samples step s mid × LeaveRuns samples later mid t

-- Memory ran out for a step. The forwarder is as before
abbrev pub LeaveStopsAt : List Sample → LeaveStep → Hops → Sending → Forward → Session → Type 0
LeaveStopsAt samples (steps.Plain step) s sending forwarder session = ForwardStopsAt samples step s sending forwarder session
LeaveStopsAt samples (steps.LeaveOut k) s sending forwarder session = (sending ≡ s.wire.sending) × (forwarder ≡ s.forwarder) × (session ≡ s.wire.session)

-- the steps, in order, up to a step for which memory ran out; the sender, the forwarder and the receiver after it
abbrev pub LeaveStops : List Sample → List LeaveStep → Hops → Sending → Forward → Session → Type 0
LeaveStops samples [] s sending forwarder session = ⊥
LeaveStops samples (step ∷ later) s sending forwarder session =
    LeaveStopsAt samples step s sending forwarder session
    ⊎ ((mid : Hops) × DoesLeaveStep samples step s mid × LeaveStops samples later mid sending forwarder session)
