-- Which requests a history answers.
use Rattle.std.specs.Prelude.{◌≡◌, ℕ, ◌+◌, ◌%◌, ◌<◌, ◌≤◌, List, [], ◌∷◌, Ok}
use Rattle.codec_payload_payloader.specs.Sending.{Sample}
use Rattle.codec_payload_sending.specs.Senders.{Sending}
use Rattle.codec_payload_sending_history.specs.Histories.{history_by}
use Rattle.codec_payload_sending_history.specs.Packets.{Past}
use Rattle.codec_payload_sending_history.specs.declared.retransmission.HistorySettings.{HistorySettings}
use Rattle.codec_payload_sending_history.specs.declared.retransmission.Resent.{Resent}
use Rattle.codec_payload_sending_history.specs.declared.retransmission.Resent.TheVariants as results
use Rattle.codec_payload_receiver.specs.Sessions.{Session}
use Rattle.codec_payload_datagram_runs.specs.HistoryReleases.{latest_with, sends_by, sent_by}
use Rattle.codec_payload_datagram_runs.specs.HistoryRuns.{HistoryRuns, Resending, begins_with}
use Rattle.codec_payload_datagram_runs.specs.declared.history_run.HistoryStep.{HistoryStep}
use Rattle.codec_payload_datagram_runs.specs.declared.history_run.HistoryStep.TheVariants as steps
use Rattle.codec_payload_datagram_runs.specs.declared.run.SentSample.{SentSample}

-- a request with the number of one of the last `limit` datagrams is answered, and the answer repeats this datagram. The first datagram
-- has this number, modulo 65,536
abbrev pub AllAnswered : (number limit : ℕ) → List Sample → (sent : ℕ) → List HistoryStep → List SentSample → List Resent → Type 0
AllAnswered number limit samples sent [] sends answers = Unit {0}
AllAnswered number limit samples sent (steps.Plain step ∷ later) sends answers = AllAnswered number limit samples (sent_by samples sent step sends) later (sends_by samples step sends) answers
AllAnswered number limit samples sent (steps.Resend requested now ∷ later) sends [] = ⊥
AllAnswered number limit samples sent (steps.Resend requested now ∷ later) sends (answer ∷ answers) =
    ((j : ℕ) → j < sent → sent ≤ j + limit → requested ≡ (number + j) % 65536 → (answer ≡ results.Written) × (latest_with number sent requested ≡ j))
    × AllAnswered number limit samples sent later sends answers
AllAnswered number limit samples sent (steps.DeliverAgain i now ∷ later) sends answers = AllAnswered number limit samples sent later sends answers

-- so it is in each run with a new history that answers at any time: its interval is 0
abbrev pub RequestsAreAnswered : Type 0
RequestsAreAnswered =
    (samples : List Sample) (all_steps : List HistoryStep) (sender : Sending) (history : Past) (receiver : Session) (t : Resending) → HistoryRuns samples all_steps (begins_with sender history receiver) t
    → (settings : HistorySettings) → history_by settings ≡ Ok history → settings.interval ≡ 0 → AllAnswered sender.stream.number settings.limit samples 0 all_steps t.wire.sends t.answers
