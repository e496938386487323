-- Runs over datagrams with custom codecs: what each step asks.
use Rattle.std.specs.Prelude.{◌≡◌, ℕ, Bool, false, List, [], ◌∷◌, ◌++◌, Option, Some, None, Result, Ok, Err, MatchOption, slice_get, ⊤}
use Rattle.codec_payload_base.specs.declared.error.PacketError.{PacketError}
use Rattle.codec_payload_base.specs.declared.interface.CodecExtra.{CodecExtra}
use Rattle.codec_payload_buffer.specs.Steps.{State}
use Rattle.codec_payload_codec.specs.Depacketizers.{is_built_in_depacketizer}
use Rattle.codec_payload_codec.specs.Packetizers.{is_built_in}
use Rattle.codec_payload_jitter.specs.OwnReceiving.{OwnStores}
use Rattle.codec_payload_buffer_runs.specs.Schedule.{Answer}
use Rattle.codec_payload_payloader.specs.Sending.{Sample}
use Rattle.codec_payload_sending.specs.Datagrams.{Sample as SentNow}
use Rattle.codec_payload_sending.specs.OwnDatagrams.{OwnSample}
use Rattle.codec_payload_sending.specs.Senders.{Sending}
use Rattle.codec_payload_receiver.specs.OwnSessions.{OwnPopsGated}
use Rattle.codec_payload_receiver.specs.Sessions.{Session}
use Rattle.codec_payload_datagram_runs.specs.WireRuns.{DoesStep, Wire, sent_sample}
use Rattle.codec_payload_datagram_runs.specs.declared.run.DatagramStep.{DatagramStep}
use Rattle.codec_payload_datagram_runs.specs.declared.run.DatagramStep.TheVariants as steps
use Rattle.codec_payload_datagram_runs.specs.declared.run.SentSample.{SentSample}

-- the answer of a call that sends a sample
abbrev pub answer_of : Option PacketError → Result (Unit {0}) PacketError
answer_of None = Ok tt
answer_of (Some fault) = Err fault

-- a custom packetizer is asked for the payloads of a sample and for their markers, and these are the datagrams
abbrev pub AsksPacketizer : {P : Type 0} (state : P → List ℕ) (packetize : P → ℕ → List ℕ → Result (List (List ℕ)) PacketError → List ℕ → Type 0)
    (mark : P → List ℕ → Option (List ℕ) → Bool → Bool → List ℕ → Type 0) (spurts : P → Bool) → SentNow → Sending → Option PacketError → Sending → Type 0
AsksPacketizer {P} state packetize mark spurts sample s fault t =
    is_built_in s.packetizer ≡ false → (before : P) × (after : P) × OwnSample state packetize mark spurts s.mtu s.stream sample before (answer_of fault) after t.datagrams

-- a custom depacketizer decides where units begin and end
abbrev pub AsksForEnds : {D : Type 0} (is_head : D → List ℕ → Bool) (is_tail : D → Bool → List ℕ → Bool) → State → State → Type 0
AsksForEnds is_head is_tail s t = is_built_in_depacketizer s.depacketizer ≡ false → OwnStores is_head is_tail s t

-- and gives the units
abbrev pub AsksForUnit : {D : Type 0} (state : D → List ℕ) (step : D → List ℕ → List ℕ → CodecExtra → Result ⊤ PacketError → List ℕ → List ℕ → CodecExtra → Type 0)
    → ℕ → Session → Answer → Type 0
AsksForUnit state step now s answer = is_built_in_depacketizer s.packets.buffer.depacketizer ≡ false → OwnPopsGated state step now s answer

-- what a step asks: a `Send` for the datagrams of its sample, a `Deliver` and the end of the stream for the ends of units, and a
-- `Pop` for its unit
abbrev pub AsksInStep : (SentNow → Sending → Option PacketError → Sending → Type 0) → (State → State → Type 0) → (ℕ → Session → Answer → Type 0)
    → List Sample → DatagramStep → Wire → Wire → Type 0
AsksInStep Sends Stores Gives samples (steps.Send i) s t =
    MatchOption (slice_get samples i) (Unit {0}) (λ sample.
    (entry : SentSample) × (t.sends ≡ s.sends ++ entry ∷ []) × Sends (sent_sample sample) s.sending entry.fault t.sending)
AsksInStep Sends Stores Gives samples (steps.Deliver k now) s t = Stores s.session.packets.buffer t.session.packets.buffer
AsksInStep Sends Stores Gives samples (steps.Pop now) s t = (answer : Answer) × (t.pops ≡ s.pops ++ answer ∷ []) × Gives now.0 s.session answer
AsksInStep Sends Stores Gives samples steps.Finish s t = Stores s.session.packets.buffer t.session.packets.buffer

-- the steps, in order, with what each asks
abbrev pub AsksInRun : (SentNow → Sending → Option PacketError → Sending → Type 0) → (State → State → Type 0) → (ℕ → Session → Answer → Type 0)
    → List Sample → List DatagramStep → Wire → Wire → Type 0
AsksInRun Sends Stores Gives samples [] s t = t ≡ s
AsksInRun Sends Stores Gives samples (step ∷ later) s t =
    (mid : Wire) × DoesStep samples step s mid × AsksInStep Sends Stores Gives samples step s mid × AsksInRun Sends Stores Gives samples later mid t
