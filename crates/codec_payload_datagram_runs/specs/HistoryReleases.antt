-- The units that a run with retransmissions releases. The delivery of a retransmission counts as a delivery of the datagram that it
-- repeats. Otherwise premises and guarantees are the same as in a run without a history.
use Rattle.std.specs.Prelude.{◌≡◌, ℕ, ◌+◌, ◌-◌, ◌%◌, ◌<◌, ◌⊎◌, List, [], ◌∷◌, ◌++◌, Option, Some, None, Ok, slice_get, refl}
use Rattle.codec_payload_base.specs.declared.wire.Ticks.{Ticks}
use Rattle.codec_payload_sending_history.specs.Histories.{Repeats, history_by, next_after}
use Rattle.codec_payload_sending_history.specs.Packets.{Past}
use Rattle.codec_payload_sending_history.specs.declared.retransmission.HistorySettings.{HistorySettings}
use Rattle.codec_payload_sending_history.specs.declared.retransmission.Resent.{Resent}
use Rattle.codec_payload_sending_history.specs.declared.retransmission.Resent.TheVariants as results
use Rattle.codec_payload_sending_history.specs.declared.retransmission.RetransmissionStream.{RetransmissionStream}
use Rattle.codec_payload_payloader.specs.Sending.{Sample}
use Rattle.codec_payload_sending.specs.Senders.{Sending}
use Rattle.codec_payload_receiver.specs.Sessions.{Session}
use Rattle.codec_payload_datagrams.specs.declared.kinds.Retransmission.{Retransmission}
use Rattle.codec_payload_datagram_runs.specs.HistoryRuns.{HistoryRuns, Resending, begins_with}
use Rattle.codec_payload_datagram_runs.specs.Releases.{IsWithinWindows, ReleasesUnits, sends_after, sent_after}
use Rattle.codec_payload_datagram_runs.specs.WireLogs.{KeepsPromises}
use Rattle.codec_payload_datagram_runs.specs.declared.history_run.HistoryStep.{HistoryStep}
use Rattle.codec_payload_datagram_runs.specs.declared.history_run.HistoryStep.TheVariants as history_steps
use Rattle.codec_payload_datagram_runs.specs.declared.run.DatagramStep.{DatagramStep}
use Rattle.codec_payload_datagram_runs.specs.declared.run.DatagramStep.TheVariants as steps
use Rattle.codec_payload_datagram_runs.specs.declared.run.SentSample.{SentSample}

-- Which datagram a retransmission repeats

-- the index of the latest of `sent` datagrams with this number, if their numbers are consecutive from `first` on, modulo 65,536
abbrev pub latest_with : (first sent number : ℕ) → ℕ
latest_with first sent number = sent - 1 - (first + sent + 65535 - number) % 65536

-- the same, if the history answered
abbrev pub repeated_by : Resent → ℕ → List ℕ
repeated_by results.Written k = k ∷ []
repeated_by results.NotKept k = []
repeated_by results.TooSoon k = []
repeated_by results.TooLarge k = []

-- how many datagrams were sent after a step, and the remaining entries
abbrev pub sent_by : List Sample → ℕ → DatagramStep → List SentSample → ℕ
sent_by samples sent (steps.Send i) sends = sent_after sent (slice_get samples i) sends
sent_by samples sent (steps.Deliver k now) sends = sent
sent_by samples sent (steps.Pop now) sends = sent
sent_by samples sent steps.Finish sends = sent

abbrev pub sends_by : List Sample → DatagramStep → List SentSample → List SentSample
sends_by samples (steps.Send i) sends = sends_after (slice_get samples i) sends
sends_by samples (steps.Deliver k now) sends = sends
sends_by samples (steps.Pop now) sends = sends
sends_by samples steps.Finish sends = sends

-- a delivery of this datagram, if there is one
abbrev pub delivery_of : Option ℕ → Ticks → List DatagramStep
delivery_of None now = []
delivery_of (Some k) now = steps.Deliver k now ∷ []

-- The steps of the run without a history that delivers the same packets: each delivered retransmission is a delivery of the
-- datagram that it repeats. Before these steps `sent` datagrams were sent, the first with the number `first`; `repeated` has the
-- indices of the datagrams that the retransmissions so far repeat. `sends` and `answers` have the results of the steps
abbrev pub plain_steps : (first : ℕ) → List Sample → (sent : ℕ) → (repeated : List ℕ) → List HistoryStep → List SentSample → List Resent → List DatagramStep
plain_steps first samples sent repeated [] sends answers = []
plain_steps first samples sent repeated (history_steps.Plain step ∷ later) sends answers =
    step ∷ plain_steps first samples (sent_by samples sent step sends) repeated later (sends_by samples step sends) answers
plain_steps first samples sent repeated (history_steps.Resend number now ∷ later) sends [] = plain_steps first samples sent repeated later sends []
plain_steps first samples sent repeated (history_steps.Resend number now ∷ later) sends (answer ∷ answers) =
    plain_steps first samples sent (repeated ++ repeated_by answer (latest_with first sent number)) later sends answers
plain_steps first samples sent repeated (history_steps.DeliverAgain j now ∷ later) sends answers =
    delivery_of (slice_get repeated j) now ++ plain_steps first samples sent repeated later sends answers

-- the same for a whole run
abbrev pub plain_steps_of : List Sample → List HistoryStep → Resending → Resending → List DatagramStep
plain_steps_of samples all_steps s t = plain_steps s.wire.sending.stream.number samples 0 [] all_steps t.wire.sends t.answers

-- the indices of the datagrams that the retransmissions repeat, after these steps
abbrev pub repeated_in : (first : ℕ) → List Sample → (sent : ℕ) → (repeated : List ℕ) → List HistoryStep → List SentSample → List Resent → List ℕ
repeated_in first samples sent repeated [] sends answers = repeated
repeated_in first samples sent repeated (history_steps.Plain step ∷ later) sends answers =
    repeated_in first samples (sent_by samples sent step sends) repeated later (sends_by samples step sends) answers
repeated_in first samples sent repeated (history_steps.Resend number now ∷ later) sends [] = repeated_in first samples sent repeated later sends []
repeated_in first samples sent repeated (history_steps.Resend number now ∷ later) sends (answer ∷ answers) =
    repeated_in first samples sent (repeated ++ repeated_by answer (latest_with first sent number)) later sends answers
repeated_in first samples sent repeated (history_steps.DeliverAgain j now ∷ later) sends answers = repeated_in first samples sent repeated later sends answers

-- the same for a whole run
abbrev pub repeated_of : List Sample → List HistoryStep → Resending → Resending → List ℕ
repeated_of samples all_steps s t = repeated_in s.wire.sending.stream.number samples 0 [] all_steps t.wire.sends t.answers

-- these bytes are retransmissions of the datagrams with these indices, and have consecutive numbers of their stream from `next` on
abbrev pub AreRepeats : Option RetransmissionStream → ℕ → List (List ℕ) → List (List ℕ) → List ℕ → Type 0
AreRepeats again next datagrams [] [] = Unit {0}
AreRepeats again next datagrams [] (k ∷ ks) = ⊥
AreRepeats again next datagrams (bytes ∷ more) [] = ⊥
AreRepeats again next datagrams (bytes ∷ more) (k ∷ ks) =
    ((datagram : List ℕ) × (slice_get datagrams k ≡ Some datagram) × Repeats again next datagram bytes) × AreRepeats again (next_after again next) datagrams more ks

-- each retransmission of a run with a new history repeats the datagram with its index
abbrev pub RepeatsDatagrams : List Sample → List HistoryStep → Resending → Resending → Type 0
RepeatsDatagrams samples all_steps s t =
    (settings : HistorySettings) → history_by settings ≡ Ok s.history
    → AreRepeats s.history.stream s.history.next t.wire.datagrams t.retransmissions (repeated_of samples all_steps s t)

-- Premises

-- A receiver with these settings reads the retransmissions: the settings name their SSRC and payload type, and none of them looks
-- like RTCP (RFC 5761, section 4). Without a stream of retransmissions a packet is resent as it was
abbrev pub AreHeard : Option RetransmissionStream → Option Retransmission → Type 0
AreHeard None r = Unit {0}
AreHeard (Some stream) r =
    (r ≡ Some (record { ssrc = stream.ssrc; payload_type = stream.payload_type })) × ((stream.payload_type < 64) ⊎ (95 < stream.payload_type))

-- the history is new, and the receiver reads its retransmissions
pub record AnswersReceiver (history : Past) (receiver : Session) : Type 0 where
  pub settings : HistorySettings
  pub new : history_by settings ≡ Ok history
  pub heard : AreHeard history.stream receiver.stream.retransmission

-- Guarantees

-- this applies to a run whose history answers its receiver, whose samples can be read, and whose datagrams and retransmissions
-- arrive within the windows
abbrev pub ReleasesWithHistory : List Sample → List HistoryStep → Resending → Resending → Type 0
ReleasesWithHistory samples all_steps s t =
    AnswersReceiver s.history s.wire.session → IsWithinWindows samples (plain_steps_of samples all_steps s t) s.wire.sending s.wire.session t.wire.sends
    → ReleasesUnits samples (plain_steps_of samples all_steps s t) s.wire t.wire

abbrev pub KeepsPromisesWithHistory : List Sample → List HistoryStep → Resending → Resending → Type 0
KeepsPromisesWithHistory samples all_steps s t =
    AnswersReceiver s.history s.wire.session → IsWithinWindows samples (plain_steps_of samples all_steps s t) s.wire.sending s.wire.session t.wire.sends
    → KeepsPromises samples (plain_steps_of samples all_steps s t) s.wire t.wire

-- for every run with a history
abbrev pub ReleaseWithHistory : Type 0
ReleaseWithHistory =
    (samples : List Sample) (all_steps : List HistoryStep) (sender : Sending) (history : Past) (receiver : Session) (t : Resending)
    → HistoryRuns samples all_steps (begins_with sender history receiver) t → ReleasesWithHistory samples all_steps (begins_with sender history receiver) t

abbrev pub PromisesWithHistory : Type 0
PromisesWithHistory =
    (samples : List Sample) (all_steps : List HistoryStep) (sender : Sending) (history : Past) (receiver : Session) (t : Resending)
    → HistoryRuns samples all_steps (begins_with sender history receiver) t → KeepsPromisesWithHistory samples all_steps (begins_with sender history receiver) t

abbrev pub RepeatsWithHistory : Type 0
RepeatsWithHistory =
    (samples : List Sample) (all_steps : List HistoryStep) (sender : Sending) (history : Past) (receiver : Session) (t : Resending)
    → HistoryRuns samples all_steps (begins_with sender history receiver) t → RepeatsDatagrams samples all_steps (begins_with sender history receiver) t

-- Examples

-- the numbers of three datagrams are 65,535, 0 and 1
pub latest_with-wraps : (latest_with 65535 3 65535 ∷ latest_with 65535 3 0 ∷ latest_with 65535 3 1 ∷ []) ≡ 0 ∷ 1 ∷ 2 ∷ []
latest_with-wraps = refl

-- of two datagrams with the number 7 the later one is meant
pub latest_with-again : latest_with 7 65537 7 ≡ 65536
latest_with-again = refl

-- two datagrams are sent; the first is resent, and its retransmission delivered, once; no second retransmission exists
pub plain_steps-resent : (sample : Sample) (now : Ticks)
    → plain_steps 65535 (sample ∷ []) 0 [] (history_steps.Plain (steps.Send 0) ∷ history_steps.Plain (steps.Deliver 1 now) ∷ history_steps.Resend 65535 now ∷ history_steps.DeliverAgain 0 now
    ∷ history_steps.DeliverAgain 1 now ∷ history_steps.Plain (steps.Pop now) ∷ []) (record { count = 2; fault = None } ∷ []) (results.Written ∷ [])
    ≡ steps.Send 0 ∷ steps.Deliver 1 now ∷ steps.Deliver 0 now ∷ steps.Pop now ∷ []
plain_steps-resent sample now = refl
