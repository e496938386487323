-- The steps of a run whose datagrams come to a viewer through a forwarder.
use Rattle.std.specs.Prelude.{◌≡◌, ℕ, Bool, true, false, List, [], ◌∷◌, ◌++◌, ◌⊎◌, Option, Some, None, Result, Ok, Err, MatchOption, slice_get}
use Rattle.codec_payload_payloader.specs.Sending.{Sample}
use Rattle.codec_payload_receiver.specs.Sessions.{ReceivesBytes, Session}
use Rattle.codec_payload_receiver.specs.declared.receiver.ReceiveError.TheVariants as refusals
use Rattle.codec_payload_rtp.specs.RtpPackets.{Packet}
use Rattle.codec_payload_rtp.specs.RtpReading.{rtp_at}
use Rattle.codec_payload_rtp.specs.declared.rtp.RtpError.{RtpError}
use Rattle.codec_payload_sending.specs.Senders.{Sending}
use Rattle.codec_payload_sending_forward.specs.Forwarding.{Forward, Forwards}
use Rattle.codec_payload_sending_forward.specs.declared.forwarder.Forwarded.{Forwarded}
use Rattle.codec_payload_sending_forward.specs.declared.forwarder.Forwarded.TheVariants as answers
use Rattle.codec_payload_datagram_runs.specs.WireRuns.{Delivers, DoesStep, Receipt, StopsAt, Wire, begins, bytes_in, wire_of}
use Rattle.codec_payload_datagram_runs.specs.declared.run.DatagramStep.{DatagramStep}
use Rattle.codec_payload_datagram_runs.specs.declared.run.DatagramStep.TheVariants as plain
use Rattle.codec_payload_forward_runs.specs.declared.run.ForwardedRun.{ForwardedRun}
use Rattle.codec_payload_forward_runs.specs.declared.run.ForwardStep.{ForwardStep}
use Rattle.codec_payload_forward_runs.specs.declared.run.ForwardStep.TheVariants as steps

-- the sender, the viewer's receiver, the sent datagrams, and the results of sends, deliveries and pops; the forwarder; the datagrams
-- that it wrote, and what it did with each datagram that came to it
pub record Hops : Type 0 where
  pub wire : Wire
  pub forwarder : Forward
  pub written : List (List ℕ)
  pub answers : List Forwarded

abbrev pub hops_of : Sending → Forward → Session → ForwardedRun → Hops
hops_of sending forwarder session run = record {
  wire = wire_of sending session run.run;
  forwarder = forwarder;
  written = bytes_in run.written.items;
  answers = run.answers.items;
}

-- before any step
abbrev pub begins_forwarding : Sending → Forward → Session → Hops
begins_forwarding sending forwarder session = record { wire = begins sending session; forwarder = forwarder; written = []; answers = [] }

-- the packet of the datagram with this index, if there is one
abbrev pub packet_read : Result Packet RtpError → Option Packet
packet_read (Ok p) = Some p
packet_read (Err fault) = None

abbrev pub packet_in : Option (List ℕ) → Option Packet
packet_in None = None
packet_in (Some datagram) = packet_read (rtp_at datagram)

-- the datagram that was written, if one was
abbrev pub written_by : Forwarded → List ℕ → List (List ℕ)
written_by answers.Began bytes = bytes ∷ []
written_by answers.Written bytes = bytes ∷ []
written_by answers.NoKeyframe bytes = []
written_by answers.OtherSource bytes = []
written_by answers.TooOld bytes = []
written_by answers.LeftOut bytes = []
written_by answers.Filled bytes = []

-- the steps of sender and receiver, and no delivery
abbrev pub is_plain : DatagramStep → Bool
is_plain (plain.Send i) = true
is_plain (plain.Deliver k now) = false
is_plain (plain.Pop now) = true
is_plain plain.Finish = true

-- a step of the sender or of the receiver, as in a run over one hop
abbrev pub DoesPlain : List Sample → DatagramStep → Hops → Hops → Type 0
DoesPlain samples step s t = (wire : Wire) × DoesStep samples step s.wire wire × (t ≡ record s { wire = wire })

-- the forwarder gets a packet, if the datagram is one: it answers, and may write the packet
abbrev pub Comes : Option Packet → (now : ℕ) → Hops → Hops → Type 0
Comes packet now s t =
    MatchOption packet (t ≡ s) (λ p.
    (answer : Forwarded) × (bytes : List ℕ) × (forwarder : Forward) × Forwards now p s.forwarder answer bytes forwarder
    × (t ≡ record s { forwarder = forwarder; written = s.written ++ written_by answer bytes; answers = s.answers ++ answer ∷ [] }))

-- One step. A datagram comes to the forwarder; a written datagram that is delivered to the receiver gets a receipt
abbrev pub DoesForwardStep : List Sample → ForwardStep → Hops → Hops → Type 0
DoesForwardStep samples (steps.Send i) s t = DoesPlain samples (plain.Send i) s t
DoesForwardStep samples (steps.Forward k now) s t = Comes (packet_in (slice_get s.wire.datagrams k)) now s t
DoesForwardStep samples (steps.Deliver j now) s t =
    MatchOption (slice_get s.written j) (t ≡ s) (λ bytes.
    (receipt : Receipt) × (session : Session) × Delivers now bytes s.wire.session receipt session
    × (t ≡ record s { wire = record s.wire { session = session; receipts = s.wire.receipts ++ receipt ∷ [] } }))
DoesForwardStep samples (steps.Pop now) s t = DoesPlain samples (plain.Pop now) s t
DoesForwardStep samples steps.Finish s t = DoesPlain samples plain.Finish s t

-- the steps, in order
abbrev pub ForwardRuns : List Sample → List ForwardStep → Hops → Hops → Type 0
ForwardRuns samples [] s t = t ≡ s
ForwardRuns samples (step ∷ later) s t = (mid : Hops) × DoesForwardStep samples step s mid × ForwardRuns samples later mid t

-- memory ran out for a step of sender or receiver, or for its results after it was done
abbrev pub StopsOrIsDone : List Sample → DatagramStep → Wire → Sending → Session → Type 0
StopsOrIsDone samples step s sending session =
    StopsAt samples step s sending session
    ⊎ ((wire : Wire) × DoesStep samples step (begins s.sending s.session) wire × (sending ≡ wire.sending) × (session ≡ wire.session))

-- Memory ran out for a step. The forwarder is as before
abbrev pub ForwardStopsAt : List Sample → ForwardStep → Hops → Sending → Forward → Session → Type 0
ForwardStopsAt samples (steps.Send i) s sending forwarder session = (forwarder ≡ s.forwarder) × StopsOrIsDone samples (plain.Send i) s.wire sending session
ForwardStopsAt samples (steps.Forward k now) s sending forwarder session = (sending ≡ s.wire.sending) × (forwarder ≡ s.forwarder) × (session ≡ s.wire.session)
ForwardStopsAt samples (steps.Deliver j now) s sending forwarder session =
    (bytes : List ℕ) × (slice_get s.written j ≡ Some bytes) × (sending ≡ s.wire.sending) × (forwarder ≡ s.forwarder)
    × ((session ≡ s.wire.session) ⊎ ReceivesBytes now bytes s.wire.session (Err refusals.OutOfMemory) session)
ForwardStopsAt samples (steps.Pop now) s sending forwarder session = (forwarder ≡ s.forwarder) × StopsOrIsDone samples (plain.Pop now) s.wire sending session
ForwardStopsAt samples steps.Finish s sending forwarder session = (forwarder ≡ s.forwarder) × StopsOrIsDone samples plain.Finish s.wire sending session

-- the steps, in order, up to a step for which memory ran out; the sender, the forwarder and the receiver after it
abbrev pub ForwardStops : List Sample → List ForwardStep → Hops → Sending → Forward → Session → Type 0
ForwardStops samples [] s sending forwarder session = ⊥
ForwardStops samples (step ∷ later) s sending forwarder session =
    ForwardStopsAt samples step s sending forwarder session
    ⊎ ((mid : Hops) × DoesForwardStep samples step s mid × ForwardStops samples later mid sending forwarder session)
