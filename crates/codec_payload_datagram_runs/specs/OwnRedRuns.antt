-- Runs in RED and custom codecs: what each step asks.
use Rattle.std.specs.Prelude.{◌≡◌, ℕ, List, [], ◌∷◌, Option}
use Rattle.codec_payload_base.specs.declared.error.PacketError.{PacketError}
use Rattle.codec_payload_buffer.specs.Steps.{State}
use Rattle.codec_payload_buffer_runs.specs.Schedule.{Answer}
use Rattle.codec_payload_payloader.specs.Sending.{Sample}
use Rattle.codec_payload_sending.specs.Datagrams.{Sample as SentNow}
use Rattle.codec_payload_sending.specs.Senders.{Sending}
use Rattle.codec_payload_receiver.specs.Sessions.{Session}
use Rattle.codec_payload_datagram_runs.specs.OwnRuns.{AsksInStep}
use Rattle.codec_payload_datagram_runs.specs.RedRuns.{DoesRedStep, RedWire}
use Rattle.codec_payload_datagram_runs.specs.declared.run.DatagramStep.{DatagramStep}

-- what a step asks: the same as a step of the run without RED; a `Deliver` for the ends of units
abbrev pub AsksInRedStep : (SentNow → Sending → Option PacketError → Sending → Type 0) → (State → State → Type 0) → (ℕ → Session → Answer → Type 0)
    → List Sample → DatagramStep → RedWire → RedWire → Type 0
AsksInRedStep Sends Stores Gives samples step s t = AsksInStep Sends Stores Gives samples step s.wire t.wire

-- the steps, in order, with what each asks
abbrev pub AsksInRedRun : (SentNow → Sending → Option PacketError → Sending → Type 0) → (State → State → Type 0) → (ℕ → Session → Answer → Type 0)
    → List Sample → List DatagramStep → RedWire → RedWire → Type 0
AsksInRedRun Sends Stores Gives samples [] s t = t ≡ s
AsksInRedRun Sends Stores Gives samples (step ∷ later) s t =
    (mid : RedWire) × DoesRedStep samples step s mid × AsksInRedStep Sends Stores Gives samples step s mid × AsksInRedRun Sends Stores Gives samples later mid t
