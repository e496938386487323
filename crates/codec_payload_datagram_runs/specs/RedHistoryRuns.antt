-- The steps of a run over datagrams in RED whose sender keeps a history of the written datagrams and resends packets (RFC 4588).
use Rattle.std.specs.Prelude.{◌≡◌, ℕ, List, [], ◌∷◌, ◌++◌, ◌⊎◌, Some, MatchOption, drop, length, slice_get}
use Rattle.codec_payload_sending_history.specs.Histories.{Resends}
use Rattle.codec_payload_sending_history.specs.Packets.{Past}
use Rattle.codec_payload_sending_history.specs.declared.retransmission.Resent.{Resent}
use Rattle.codec_payload_sending_red.specs.Writers.{Writer}
use Rattle.codec_payload_payloader.specs.Sending.{Sample}
use Rattle.codec_payload_sending.specs.Senders.{Sending}
use Rattle.codec_payload_receiver.specs.Sessions.{Session}
use Rattle.codec_payload_datagram_runs.specs.HistoryRuns.{KeepsAll, KeepsSome, written}
use Rattle.codec_payload_datagram_runs.specs.RedRuns.{DeliversWhole, DoesRedStep, RedStopsAt, RedWire, StopsDelivering, begins_in_red, red_wire_of}
use Rattle.codec_payload_datagram_runs.specs.WireRuns.{Receipt, bytes_in}
use Rattle.codec_payload_datagram_runs.specs.declared.history_run.HistoryStep.{HistoryStep}
use Rattle.codec_payload_datagram_runs.specs.declared.history_run.HistoryStep.TheVariants as steps
use Rattle.codec_payload_datagram_runs.specs.declared.red_history_run.RedHistoryRun.{RedHistoryRun}

-- sender, writer, receiver, datagrams and results as in a run in RED without a history; the history; the retransmissions so far; the
-- answers to requests
pub record RedResending : Type 0 where
  pub red : RedWire
  pub history : Past
  pub retransmissions : List (List ℕ)
  pub answers : List Resent

abbrev pub red_resending_of : Sending → Writer → Past → Session → RedHistoryRun → RedResending
red_resending_of sending writer history session run = record {
  red = red_wire_of sending writer session run.red;
  history = history;
  retransmissions = bytes_in run.retransmissions.items;
  answers = run.answers.items;
}

-- before any step
abbrev pub begins_in_red_with : Sending → Writer → Past → Session → RedResending
begins_in_red_with sending writer history session = record { red = begins_in_red sending writer session; history = history; retransmissions = []; answers = [] }

-- the datagrams that were written between two states
abbrev pub written_since : RedWire → RedWire → List (List ℕ)
written_since s t = drop (length s.written) t.written

-- one step: the history keeps what a step of the run in RED writes; a request gets an answer; a retransmission that exists is
-- received, and gets a receipt
abbrev pub DoesRedHistoryStep : List Sample → HistoryStep → RedResending → RedResending → Type 0
DoesRedHistoryStep samples (steps.Plain step) s t =
    (red : RedWire) × (history : Past) × DoesRedStep samples step s.red red × KeepsAll s.history (written_since s.red red) history
    × (t ≡ record s { red = red; history = history })
DoesRedHistoryStep samples (steps.Resend number now) s t =
    (answer : Resent) × (bytes : List ℕ) × (history : Past) × Resends now number s.history [] answer bytes history
    × (t ≡ record s { history = history; retransmissions = s.retransmissions ++ written answer bytes; answers = s.answers ++ answer ∷ [] })
DoesRedHistoryStep samples (steps.DeliverAgain j now) s t =
    MatchOption (slice_get s.retransmissions j) (t ≡ s) (λ bytes.
    (receipt : Receipt) × (session : Session) × DeliversWhole now bytes s.red.wire.session receipt session
    × (t ≡ record s { red = record s.red { wire = record s.red.wire { session = session; receipts = s.red.wire.receipts ++ receipt ∷ [] } } }))

-- memory ran out for a step: before it began, inside the call, or for a written datagram that the history should keep
abbrev pub RedHistoryStopsAt : List Sample → HistoryStep → RedResending → Sending → Writer → Past → Session → Type 0
RedHistoryStopsAt samples (steps.Plain step) s sending writer history session =
    ((history ≡ s.history) × RedStopsAt samples step s.red sending writer session)
    ⊎ ((red : RedWire) × DoesRedStep samples step s.red red × (sending ≡ red.wire.sending) × (writer ≡ red.writer) × (session ≡ red.wire.session)
    × KeepsSome s.history (written_since s.red red) history)
RedHistoryStopsAt samples (steps.Resend number now) s sending writer history session =
    (sending ≡ s.red.wire.sending) × (writer ≡ s.red.writer) × (history ≡ s.history) × (session ≡ s.red.wire.session)
RedHistoryStopsAt samples (steps.DeliverAgain j now) s sending writer history session =
    (bytes : List ℕ) × (slice_get s.retransmissions j ≡ Some bytes) × (sending ≡ s.red.wire.sending) × (writer ≡ s.red.writer) × (history ≡ s.history)
    × ((session ≡ s.red.wire.session) ⊎ StopsDelivering now bytes s.red.wire.session session)

-- the steps, in order, up to a step for which memory ran out; the sender, the writer, the history and the receiver after it
abbrev pub RedHistoryStops : List Sample → List HistoryStep → RedResending → Sending → Writer → Past → Session → Type 0
RedHistoryStops samples [] s sending writer history session = ⊥
RedHistoryStops samples (step ∷ later) s sending writer history session =
    RedHistoryStopsAt samples step s sending writer history session
    ⊎ ((mid : RedResending) × DoesRedHistoryStep samples step s mid × RedHistoryStops samples later mid sending writer history session)

-- the steps, in order
abbrev pub RedHistoryRuns : List Sample → List HistoryStep → RedResending → RedResending → Type 0
RedHistoryRuns samples [] s t = t ≡ s
RedHistoryRuns samples (step ∷ later) s t = (mid : RedResending) × DoesRedHistoryStep samples step s mid × RedHistoryRuns samples later mid t
