-- Runs in RED with a history and custom codecs: what each step asks.
use Rattle.std.specs.Prelude.{◌≡◌, ℕ, List, [], ◌∷◌, Option}
use Rattle.codec_payload_base.specs.declared.error.PacketError.{PacketError}
use Rattle.codec_payload_buffer.specs.Steps.{State}
use Rattle.codec_payload_buffer_runs.specs.Schedule.{Answer}
use Rattle.codec_payload_payloader.specs.Sending.{Sample}
use Rattle.codec_payload_sending.specs.Datagrams.{Sample as SentNow}
use Rattle.codec_payload_sending.specs.Senders.{Sending}
use Rattle.codec_payload_receiver.specs.Sessions.{Session}
use Rattle.codec_payload_datagram_runs.specs.OwnRedRuns.{AsksInRedStep}
use Rattle.codec_payload_datagram_runs.specs.RedHistoryRuns.{DoesRedHistoryStep, RedResending}
use Rattle.codec_payload_datagram_runs.specs.declared.history_run.HistoryStep.{HistoryStep}
use Rattle.codec_payload_datagram_runs.specs.declared.history_run.HistoryStep.TheVariants as steps

-- what a step asks: a step of the run without a history as it does there, a request nothing, and the delivery of a retransmission
-- for the ends of units
abbrev pub AsksInRedHistoryStep : (SentNow → Sending → Option PacketError → Sending → Type 0) → (State → State → Type 0) → (ℕ → Session → Answer → Type 0)
    → List Sample → HistoryStep → RedResending → RedResending → Type 0
AsksInRedHistoryStep Sends Stores Gives samples (steps.Plain step) s t = AsksInRedStep Sends Stores Gives samples step s.red t.red
AsksInRedHistoryStep Sends Stores Gives samples (steps.Resend number now) s t = Unit {0}
AsksInRedHistoryStep Sends Stores Gives samples (steps.DeliverAgain j now) s t = Stores s.red.wire.session.packets.buffer t.red.wire.session.packets.buffer

-- the steps, in order, with what each asks
abbrev pub AsksInRedHistoryRun : (SentNow → Sending → Option PacketError → Sending → Type 0) → (State → State → Type 0) → (ℕ → Session → Answer → Type 0)
    → List Sample → List HistoryStep → RedResending → RedResending → Type 0
AsksInRedHistoryRun Sends Stores Gives samples [] s t = t ≡ s
AsksInRedHistoryRun Sends Stores Gives samples (step ∷ later) s t =
    (mid : RedResending) × DoesRedHistoryStep samples step s mid × AsksInRedHistoryStep Sends Stores Gives samples step s mid
    × AsksInRedHistoryRun Sends Stores Gives samples later mid t
