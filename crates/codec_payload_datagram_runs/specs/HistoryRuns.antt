-- The steps of a run over datagrams whose sender keeps a history and resends packets (RFC 4588).
use Rattle.std.specs.Prelude.{◌≡◌, ℕ, List, [], ◌∷◌, ◌++◌, ◌⊎◌, Some, Ok, Err, MatchOption, drop, length, slice_get}
use Rattle.codec_payload_sending_history.specs.Histories.{Keeps, Resends}
use Rattle.codec_payload_sending_history.specs.Packets.{Past}
use Rattle.codec_payload_sending_history.specs.declared.retransmission.Kept.{Kept}
use Rattle.codec_payload_sending_history.specs.declared.retransmission.Resent.{Resent}
use Rattle.codec_payload_sending_history.specs.declared.retransmission.Resent.TheVariants as results
use Rattle.codec_payload_rtp.specs.RtpPackets.{Packet}
use Rattle.codec_payload_rtp.specs.RtpReading.{rtp_at}
use Rattle.codec_payload_payloader.specs.Sending.{Sample}
use Rattle.codec_payload_sending.specs.Senders.{Sending}
use Rattle.codec_payload_receiver.specs.Sessions.{ReceivesBytes, Session}
use Rattle.codec_payload_receiver.specs.declared.receiver.ReceiveError.TheVariants as refusals
use Rattle.codec_payload_datagram_runs.specs.WireRuns.{Delivers, DoesStep, Receipt, StopsAt, Wire, begins, bytes_in, wire_of}
use Rattle.codec_payload_datagram_runs.specs.declared.history_run.HistoryRun.{HistoryRun}
use Rattle.codec_payload_datagram_runs.specs.declared.history_run.HistoryStep.{HistoryStep}
use Rattle.codec_payload_datagram_runs.specs.declared.history_run.HistoryStep.TheVariants as steps

-- sender, receiver, datagrams and results as in a run without a history; the history; the retransmissions so far; the answers to
-- requests
pub record Resending : Type 0 where
  pub wire : Wire
  pub history : Past
  pub retransmissions : List (List ℕ)
  pub answers : List Resent

abbrev pub resending_of : Sending → Past → Session → HistoryRun → Resending
resending_of sending history session run = record {
  wire = wire_of sending session run.run;
  history = history;
  retransmissions = bytes_in run.retransmissions.items;
  answers = run.answers.items;
}

-- before any step
abbrev pub begins_with : Sending → Past → Session → Resending
begins_with sending history session = record { wire = begins sending session; history = history; retransmissions = []; answers = [] }

-- the datagram is an RTP packet
abbrev pub IsPacket : List ℕ → Type 0
IsPacket datagram = (packet : Packet) × (rtp_at datagram ≡ Ok packet)

-- the history keeps this datagram, or it is too old
abbrev pub KeepsOne : Past → List ℕ → Past → Type 0
KeepsOne h datagram t = (kept : Kept) × Keeps h datagram kept t

-- the history keeps these datagrams, one after another
abbrev pub KeepsAll : Past → List (List ℕ) → Past → Type 0
KeepsAll h [] t = t ≡ h
KeepsAll h (datagram ∷ datagrams) t = (mid : Past) × KeepsOne h datagram mid × KeepsAll mid datagrams t

-- it keeps some of them, up to a datagram for which memory ran out
abbrev pub KeepsSome : Past → List (List ℕ) → Past → Type 0
KeepsSome h [] t = ⊥
KeepsSome h (datagram ∷ datagrams) t = (t ≡ h) ⊎ ((mid : Past) × KeepsOne h datagram mid × KeepsSome mid datagrams t)

-- the datagrams that were sent between two states
abbrev pub sent_since : Wire → Wire → List (List ℕ)
sent_since s t = drop (length s.datagrams) t.datagrams

-- the retransmission, if one was written
abbrev pub written : Resent → List ℕ → List (List ℕ)
written results.Written bytes = bytes ∷ []
written results.NotKept bytes = []
written results.TooSoon bytes = []
written results.TooLarge bytes = []

-- one step: the history keeps what a step of the run without a history sends; a request gets an answer; a retransmission that
-- exists is received, and gets a receipt
abbrev pub DoesHistoryStep : List Sample → HistoryStep → Resending → Resending → Type 0
DoesHistoryStep samples (steps.Plain step) s t =
    (wire : Wire) × (history : Past) × DoesStep samples step s.wire wire × KeepsAll s.history (sent_since s.wire wire) history
    × (t ≡ record s { wire = wire; history = history })
DoesHistoryStep samples (steps.Resend number now) s t =
    (answer : Resent) × (bytes : List ℕ) × (history : Past) × Resends now number s.history [] answer bytes history
    × (t ≡ record s { history = history; retransmissions = s.retransmissions ++ written answer bytes; answers = s.answers ++ answer ∷ [] })
DoesHistoryStep samples (steps.DeliverAgain j now) s t =
    MatchOption (slice_get s.retransmissions j) (t ≡ s) (λ bytes.
    (receipt : Receipt) × (session : Session) × Delivers now bytes s.wire.session receipt session
    × (t ≡ record s { wire = record s.wire { session = session; receipts = s.wire.receipts ++ receipt ∷ [] } }))

-- memory ran out for a step: before it began, inside the call, or for a sent datagram that the history should keep
abbrev pub HistoryStopsAt : List Sample → HistoryStep → Resending → Sending → Past → Session → Type 0
HistoryStopsAt samples (steps.Plain step) s sending history session =
    ((history ≡ s.history) × StopsAt samples step s.wire sending session)
    ⊎ ((wire : Wire) × DoesStep samples step s.wire wire × (sending ≡ wire.sending) × (session ≡ wire.session) × KeepsSome s.history (sent_since s.wire wire) history)
HistoryStopsAt samples (steps.Resend number now) s sending history session = (sending ≡ s.wire.sending) × (history ≡ s.history) × (session ≡ s.wire.session)
HistoryStopsAt samples (steps.DeliverAgain j now) s sending history session =
    (bytes : List ℕ) × (slice_get s.retransmissions j ≡ Some bytes) × (sending ≡ s.wire.sending) × (history ≡ s.history)
    × ((session ≡ s.wire.session) ⊎ ReceivesBytes now bytes s.wire.session (Err refusals.OutOfMemory) session)

-- the steps, in order, up to a step for which memory ran out; the sender, the history and the receiver after it
abbrev pub HistoryStops : List Sample → List HistoryStep → Resending → Sending → Past → Session → Type 0
HistoryStops samples [] s sending history session = ⊥
HistoryStops samples (step ∷ later) s sending history session =
    HistoryStopsAt samples step s sending history session
    ⊎ ((mid : Resending) × DoesHistoryStep samples step s mid × HistoryStops samples later mid sending history session)

-- the steps, in order
abbrev pub HistoryRuns : List Sample → List HistoryStep → Resending → Resending → Type 0
HistoryRuns samples [] s t = t ≡ s
HistoryRuns samples (step ∷ later) s t = (mid : Resending) × DoesHistoryStep samples step s mid × HistoryRuns samples later mid t
