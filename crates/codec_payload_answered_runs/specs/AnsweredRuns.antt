-- A run whose parts are all of this library: a sender with the history of its datagrams, a receiver, and the schedule of its requests.
use Rattle.std.specs.Prelude.{◌≡◌, ℕ, zero, suc, ◌+◌, ◌%◌, ◌<◌, ◌≤◌, ◌⊎◌, List, [], ◌∷◌, ◌++◌, Option, Some, None, slice_get}
use Rattle.codec_payload_base.specs.declared.wire.Ticks.{Ticks}
use Rattle.codec_payload_feedback_requests.specs.declared.nack.NackSettings.{NackSettings}
use Rattle.codec_payload_feedback_requests.specs.NackRuns.{is_in}
use Rattle.codec_payload_feedback_requests.specs.NackSchedule.{Schedule, after_answer, after_due, new_schedule}
use Rattle.codec_payload_payloader.specs.Sending.{Sample}
use Rattle.codec_payload_sending.specs.Senders.{Sending}
use Rattle.codec_payload_sending_history.specs.Packets.{Past}
use Rattle.codec_payload_sending_history.specs.declared.retransmission.Resent.{Resent}
use Rattle.codec_payload_sending_history.specs.declared.retransmission.Resent.TheVariants as results
use Rattle.codec_payload_receiver.specs.Sessions.{Session}
use Rattle.codec_payload_buffer_runs.specs.ReportedIds.{next_id}
use Rattle.codec_payload_datagram_runs.specs.HistoryReleases.{AnswersReceiver, latest_with, repeated_by, sends_by, sent_by}
use Rattle.codec_payload_datagram_runs.specs.HistoryRuns.{DoesHistoryStep, Resending, begins_with}
use Rattle.codec_payload_buffer_runs.specs.RunUnits.{AreNext}
use Rattle.codec_payload_codec.specs.Packetizers.{may_split}
use Rattle.codec_payload_datagram_runs.specs.Releases.{IsKnownOf, IsWithinWindows, delivered, received_steps}
use Rattle.codec_payload_datagram_runs.specs.WireLogs.{OfEachLog}
use Rattle.codec_payload_timely_runs.specs.TimelyRuns.{PopsInTimeFrom0}
use Rattle.codec_payload_datagram_runs.specs.declared.history_run.HistoryStep.{HistoryStep}
use Rattle.codec_payload_datagram_runs.specs.declared.history_run.HistoryStep.TheVariants as history_steps
use Rattle.codec_payload_datagram_runs.specs.declared.run.DatagramStep.TheVariants as steps
use Rattle.codec_payload_datagram_runs.specs.declared.run.SentSample.{SentSample}
use Rattle.codec_payload_answered_runs.specs.FilledGaps.{AllArePopped, KeepsUp, WaitsByTime, first_size}
use Rattle.codec_payload_answered_runs.specs.AskedRuns.{AllowsTries, Asked, AskedStep, Asking, Asks, AsksInTime, BeginsAt0, Does, FillsGaps, FirstComesFirst, NotesAnswer, IfAsked, OneServes, TimesRise, asked_by, receiver_steps, plain_of, wanted_by}

-- The run

-- a step of the run
pub data AnsweredStep : Type 0 where
  -- a step of the sender, its history, the network or the receiver
  Links : HistoryStep → AnsweredStep
  -- the missing numbers of the receiver are handed to the schedule, and what is due is requested
  Polls : (now : ℕ) → AnsweredStep
  -- the schedule is informed that a retransmission of this number, in 16 bits, came
  Notes : (now number : ℕ) → AnsweredStep

-- sender, history and receiver with their results so far; the schedule, and what was requested so far
pub record Answering : Type 0 where
  pub link : Resending
  pub schedule : Schedule
  pub asked : List Asked

-- before any step
abbrev pub begins_answering : Sending → Past → Session → NackSettings → Answering
begins_answering sending history session settings = record { link = begins_with sending history session; schedule = new_schedule settings; asked = [] }

abbrev pub DoesAnswered : List Sample → AnsweredStep → Answering → Answering → Type 0
DoesAnswered samples (Links step) s t = (link : Resending) × DoesHistoryStep samples step s.link link × (t ≡ record s { link = link })
DoesAnswered samples (Polls now) s t =
    t ≡ record s { schedule = after_due now (wanted_by now s.link.wire.session s.schedule); asked = s.asked ++ asked_by now s.link.wire.session s.schedule ∷ [] }
DoesAnswered samples (Notes now number) s t = t ≡ record s { schedule = after_answer now number s.schedule }

-- the steps, in order
abbrev pub AnsweredRuns : List Sample → List AnsweredStep → Answering → Answering → Type 0
AnsweredRuns samples [] s t = t ≡ s
AnsweredRuns samples (step ∷ later) s t = (mid : Answering) × DoesAnswered samples step s mid × AnsweredRuns samples later mid t

-- The same without a history: each delivered retransmission is a delivery of the datagram that it repeats

-- a delivery of this datagram, if there is one
abbrev pub delivery_before : Option ℕ → Ticks → List AskedStep → List AskedStep
delivery_before None now later = later
delivery_before (Some k) now later = Does (steps.Deliver k now) ∷ later

abbrev pub asked_steps : (first : ℕ) → List Sample → (sent : ℕ) → (repeated : List ℕ) → List AnsweredStep → List SentSample → List Resent → List AskedStep
asked_steps first samples sent repeated [] sends answers = []
asked_steps first samples sent repeated (Links (history_steps.Plain step) ∷ later) sends answers =
    Does step ∷ asked_steps first samples (sent_by samples sent step sends) repeated later (sends_by samples step sends) answers
asked_steps first samples sent repeated (Links (history_steps.Resend number now) ∷ later) sends [] = asked_steps first samples sent repeated later sends []
asked_steps first samples sent repeated (Links (history_steps.Resend number now) ∷ later) sends (answer ∷ answers) =
    asked_steps first samples sent (repeated ++ repeated_by answer (latest_with first sent number)) later sends answers
asked_steps first samples sent repeated (Links (history_steps.DeliverAgain j now) ∷ later) sends answers =
    delivery_before (slice_get repeated j) now (asked_steps first samples sent repeated later sends answers)
asked_steps first samples sent repeated (Polls now ∷ later) sends answers = Asks now ∷ asked_steps first samples sent repeated later sends answers
asked_steps first samples sent repeated (Notes now number ∷ later) sends answers = NotesAnswer now number ∷ asked_steps first samples sent repeated later sends answers

-- of a whole run
abbrev pub asked_steps_of : List Sample → List AnsweredStep → Answering → Answering → List AskedStep
asked_steps_of samples all_steps s t = asked_steps s.link.wire.sending.stream.number samples 0 [] all_steps t.link.wire.sends t.link.answers

abbrev pub asking_of : Answering → Asking
asking_of s = record { wire = s.link.wire; schedule = s.schedule; asked = s.asked }

-- Premises: each request and each answer that is not lost arrives within a delay

-- how many retransmissions an answer wrote
abbrev pub written_by : Resent → ℕ
written_by results.Written = 1
written_by results.NotKept = 0
written_by results.TooSoon = 0
written_by results.TooLarge = 0

-- the retransmission with this index arrives by then
abbrev pub Arrives : (m by : ℕ) → List AnsweredStep → Type 0
Arrives m by [] = ⊥
Arrives m by (Links (history_steps.Plain step) ∷ later) = Arrives m by later
Arrives m by (Links (history_steps.Resend number now) ∷ later) = Arrives m by later
Arrives m by (Links (history_steps.DeliverAgain j now) ∷ later) = ((j ≡ m) × (now.0 ≤ by)) ⊎ Arrives m by later
Arrives m by (Polls now ∷ later) = Arrives m by later
Arrives m by (Notes now number ∷ later) = Arrives m by later

-- A request for the datagram with the index j, made at `asked_at`, is answered: it arrives within the delay, when `sent` datagrams were
-- sent; the history answers it; and its answer, the retransmission with the index m, arrives within the delay
abbrev pub IsAnswered : (number : ℕ) → List Sample → (j asked_at delay sent m : ℕ) → List AnsweredStep → List SentSample → List Resent → Type 0
IsAnswered number samples j asked_at delay sent m [] sends answers = ⊥
IsAnswered number samples j asked_at delay sent m (Links (history_steps.Plain step) ∷ later) sends answers =
    IsAnswered number samples j asked_at delay (sent_by samples sent step sends) m later (sends_by samples step sends) answers
IsAnswered number samples j asked_at delay sent m (Links (history_steps.Resend requested now) ∷ later) sends [] = ⊥
IsAnswered number samples j asked_at delay sent m (Links (history_steps.Resend requested now) ∷ later) sends (answer ∷ answers) =
    ((j < sent) × (latest_with number sent requested ≡ j) × (now.0 ≤ asked_at + delay) × (answer ≡ results.Written) × Arrives m (now.0 + delay) later)
    ⊎ IsAnswered number samples j asked_at delay sent (m + written_by answer) later sends answers
IsAnswered number samples j asked_at delay sent m (Links (history_steps.DeliverAgain i now) ∷ later) sends answers = IsAnswered number samples j asked_at delay sent m later sends answers
IsAnswered number samples j asked_at delay sent m (Polls now ∷ later) sends answers = IsAnswered number samples j asked_at delay sent m later sends answers
IsAnswered number samples j asked_at delay sent m (Notes now heard ∷ later) sends answers = IsAnswered number samples j asked_at delay sent m later sends answers

-- of the first k + 1 requests for the datagram with the index j, at most k are in vain. The receiver counts it as `first + j`
abbrev pub OneIsAnswered : (number first : ℕ) → List Sample → (j delay k sent m : ℕ) → List AnsweredStep → List SentSample → List Resent → List Asked → Type 0
OneIsAnswered number first samples j delay k sent m [] sends answers asked = Unit {0}
OneIsAnswered number first samples j delay k sent m (Links (history_steps.Plain step) ∷ later) sends answers asked =
    OneIsAnswered number first samples j delay k (sent_by samples sent step sends) m later (sends_by samples step sends) answers asked
OneIsAnswered number first samples j delay k sent m (Links (history_steps.Resend requested now) ∷ later) sends [] asked = ⊥
OneIsAnswered number first samples j delay k sent m (Links (history_steps.Resend requested now) ∷ later) sends (answer ∷ answers) asked =
    OneIsAnswered number first samples j delay k sent (m + written_by answer) later sends answers asked
OneIsAnswered number first samples j delay k sent m (Links (history_steps.DeliverAgain i now) ∷ later) sends answers asked = OneIsAnswered number first samples j delay k sent m later sends answers asked
OneIsAnswered number first samples j delay k sent m (Notes now heard ∷ later) sends answers asked = OneIsAnswered number first samples j delay k sent m later sends answers asked
OneIsAnswered number first samples j delay k sent m (Polls now ∷ later) sends answers [] = ⊥
OneIsAnswered number first samples j delay zero sent m (Polls now ∷ later) sends answers (x ∷ asked) =
    IfAsked (is_in (first + j) x.numbers) (IsAnswered number samples j now delay sent m later sends answers) (OneIsAnswered number first samples j delay zero sent m later sends answers asked)
OneIsAnswered number first samples j delay (suc k) sent m (Polls now ∷ later) sends answers (x ∷ asked) =
    IfAsked (is_in (first + j) x.numbers) (IsAnswered number samples j now delay sent m later sends answers ⊎ OneIsAnswered number first samples j delay k sent m later sends answers asked)
    (OneIsAnswered number first samples j delay (suc k) sent m later sends answers asked)

-- The same about the network alone: a request for the datagram with the index j arrives within the delay, while the history has the
-- datagram: before `limit` others were sent after it; and the answer, the retransmission with the index m, arrives within the delay
abbrev pub GetsThrough : (number limit : ℕ) → List Sample → (j asked_at delay sent m : ℕ) → List AnsweredStep → List SentSample → List Resent → Type 0
GetsThrough number limit samples j asked_at delay sent m [] sends answers = ⊥
GetsThrough number limit samples j asked_at delay sent m (Links (history_steps.Plain step) ∷ later) sends answers =
    GetsThrough number limit samples j asked_at delay (sent_by samples sent step sends) m later (sends_by samples step sends) answers
GetsThrough number limit samples j asked_at delay sent m (Links (history_steps.Resend requested now) ∷ later) sends [] = ⊥
GetsThrough number limit samples j asked_at delay sent m (Links (history_steps.Resend requested now) ∷ later) sends (answer ∷ answers) =
    ((requested ≡ (number + j) % 65536) × (j < sent) × (sent ≤ j + limit) × (now.0 ≤ asked_at + delay) × Arrives m (now.0 + delay) later)
    ⊎ GetsThrough number limit samples j asked_at delay sent (m + written_by answer) later sends answers
GetsThrough number limit samples j asked_at delay sent m (Links (history_steps.DeliverAgain i now) ∷ later) sends answers = GetsThrough number limit samples j asked_at delay sent m later sends answers
GetsThrough number limit samples j asked_at delay sent m (Polls now ∷ later) sends answers = GetsThrough number limit samples j asked_at delay sent m later sends answers
GetsThrough number limit samples j asked_at delay sent m (Notes now heard ∷ later) sends answers = GetsThrough number limit samples j asked_at delay sent m later sends answers

-- of the first k + 1 requests for the datagram with the index j, at most k, or their answers, are lost
abbrev pub OneGetsThrough : (number limit first : ℕ) → List Sample → (j delay k sent m : ℕ) → List AnsweredStep → List SentSample → List Resent → List Asked → Type 0
OneGetsThrough number limit first samples j delay k sent m [] sends answers asked = Unit {0}
OneGetsThrough number limit first samples j delay k sent m (Links (history_steps.Plain step) ∷ later) sends answers asked =
    OneGetsThrough number limit first samples j delay k (sent_by samples sent step sends) m later (sends_by samples step sends) answers asked
OneGetsThrough number limit first samples j delay k sent m (Links (history_steps.Resend requested now) ∷ later) sends [] asked = ⊥
OneGetsThrough number limit first samples j delay k sent m (Links (history_steps.Resend requested now) ∷ later) sends (answer ∷ answers) asked =
    OneGetsThrough number limit first samples j delay k sent (m + written_by answer) later sends answers asked
OneGetsThrough number limit first samples j delay k sent m (Links (history_steps.DeliverAgain i now) ∷ later) sends answers asked =
    OneGetsThrough number limit first samples j delay k sent m later sends answers asked
OneGetsThrough number limit first samples j delay k sent m (Notes now heard ∷ later) sends answers asked = OneGetsThrough number limit first samples j delay k sent m later sends answers asked
OneGetsThrough number limit first samples j delay k sent m (Polls now ∷ later) sends answers [] = ⊥
OneGetsThrough number limit first samples j delay zero sent m (Polls now ∷ later) sends answers (x ∷ asked) =
    IfAsked (is_in (first + j) x.numbers) (GetsThrough number limit samples j now delay sent m later sends answers)
    (OneGetsThrough number limit first samples j delay zero sent m later sends answers asked)
OneGetsThrough number limit first samples j delay (suc k) sent m (Polls now ∷ later) sends answers (x ∷ asked) =
    IfAsked (is_in (first + j) x.numbers)
    (GetsThrough number limit samples j now delay sent m later sends answers ⊎ OneGetsThrough number limit first samples j delay k sent m later sends answers asked)
    (OneGetsThrough number limit first samples j delay (suc k) sent m later sends answers asked)

-- the steps of the sender, its history, the network and the receiver
abbrev pub links_of : List AnsweredStep → List HistoryStep
links_of [] = []
links_of (Links step ∷ later) = step ∷ links_of later
links_of (Polls now ∷ later) = links_of later
links_of (Notes now heard ∷ later) = links_of later

-- so the datagram comes within twice the delay of one of these requests
abbrev pub AnswersServe : Type 0
AnswersServe =
    (number first : ℕ) (samples : List Sample) (j delay k : ℕ) (all_steps : List AnsweredStep) (sends : List SentSample) (answers : List Resent) (asked : List Asked)
    → OneIsAnswered number first samples j delay k 0 0 all_steps sends answers asked
    → OneServes first (delay + delay) j k (receiver_steps samples 0 (asked_steps number samples 0 [] all_steps sends answers) sends) asked

-- Guarantees

-- for every run whose receiver requests what is missing, and whose sender answers by its history
abbrev pub AnswersFillGaps : Type 0
AnswersFillGaps =
    (samples : List Sample) (all_steps : List AnsweredStep) (sender : Sending) (history : Past) (receiver : Session) (settings : NackSettings) (t : Answering)
    → AnsweredRuns samples all_steps (begins_answering sender history receiver settings) t → next_id sender.packetizer ≡ None → AnswersReceiver history receiver
    → IsWithinWindows samples (plain_of (asked_steps_of samples all_steps (begins_answering sender history receiver settings) t)) sender receiver t.link.wire.sends
    → FillsGaps samples (asked_steps_of samples all_steps (begins_answering sender history receiver settings) t) settings (asking_of (begins_answering sender history receiver settings)) (asking_of t)

-- the steps of the receiver
abbrev pub heard_by : (number : ℕ) → List Sample → List AnsweredStep → List SentSample → List Resent → List AskedStep
heard_by number samples all_steps sends answers = receiver_steps samples 0 (asked_steps number samples 0 [] all_steps sends answers) sends

-- The network, and when it is polled: times do not fall; the schedule is polled in time; the first datagram comes first, and the first
-- unit before others; and of the first k + 1 requests for each datagram, at most k, or their answers, are lost. A request and an answer
-- that is not lost arrives within the delay
pub record AllowsAnswers (number limit first slack delay k size : ℕ) (samples : List Sample) (all_steps : List AnsweredStep) (sends : List SentSample) (answers : List Resent) (asked : List Asked) : Type 0 where
  pub times : TimesRise 0 (heard_by number samples all_steps sends answers)
  pub asks : AsksInTime slack None (heard_by number samples all_steps sends answers) asked
  pub begins : BeginsAt0 (delivered (plain_of (heard_by number samples all_steps sends answers)))
  pub first_unit : FirstComesFirst size [] (heard_by number samples all_steps sends answers)
  pub gets_through : (j : ℕ) → OneGetsThrough number limit first samples j delay k 0 0 all_steps sends answers asked

-- of a run
abbrev pub AnswersRequests : (first slack delay k size : ℕ) → List Sample → List AnsweredStep → Answering → Answering → Type 0
AnswersRequests first slack delay k size samples all_steps s t =
    AllowsAnswers s.link.wire.sending.stream.number s.link.history.limit first slack delay k size samples all_steps t.link.wire.sends t.link.answers t.asked

-- Lost, requested, answered, whole: the pops return the units in turn, from the first one that was sent on, each whole and none left
-- out; and each in time, if pops come until None after each delivery and at each deadline
pub record ComeBack (samples : List Sample) (all_steps : List AnsweredStep) (settings : NackSettings) (s t : Answering) : Type 0 where
  pub gaps : FillsGaps samples (asked_steps_of samples all_steps s t) settings (asking_of s) (asking_of t)
  pub in_turn : (max_wait slack delay k : ℕ) → WaitsByTime max_wait s.link.wire.session.packets
      → KeepsUp s.link.wire.session.packets.room s.link.wire.session.packets.buffer.limit gaps.run.times.promises.released.units 0
      (received_steps samples 0 (plain_of (asked_steps_of samples all_steps s t)) t.link.wire.sends) t.link.wire.pops
      → AllowsTries settings max_wait slack (delay + delay) k s.link.wire.session.packets.buffer.limit
      → AnswersRequests gaps.run.times.promises.first slack delay k (first_size gaps.run.times.promises.released.units) samples all_steps s t
      → AreNext (IsKnownOf samples (plain_of (asked_steps_of samples all_steps s t)) s.link.wire t.link.wire gaps.run.times.promises.released.units) (may_split s.link.wire.sending.packetizer)
      gaps.run.times.promises.released.units 0 t.link.wire.pops
  pub in_time : (max_wait slack delay k : ℕ) → WaitsByTime max_wait s.link.wire.session.packets
      → KeepsUp s.link.wire.session.packets.room s.link.wire.session.packets.buffer.limit gaps.run.times.promises.released.units 0
      (received_steps samples 0 (plain_of (asked_steps_of samples all_steps s t)) t.link.wire.sends) t.link.wire.pops
      → AllowsTries settings max_wait slack (delay + delay) k s.link.wire.session.packets.buffer.limit
      → AnswersRequests gaps.run.times.promises.first slack delay k (first_size gaps.run.times.promises.released.units) samples all_steps s t
      → OfEachLog samples (plain_of (asked_steps_of samples all_steps s t)) s.link.wire t.link.wire gaps.run.times.promises.released.units
      (λ turns end. PopsInTimeFrom0 max_wait (received_steps samples 0 (plain_of (asked_steps_of samples all_steps s t)) t.link.wire.sends) turns
      → AllArePopped (IsKnownOf samples (plain_of (asked_steps_of samples all_steps s t)) s.link.wire t.link.wire gaps.run.times.promises.released.units) max_wait gaps.run.times.promises.first
      (may_split s.link.wire.sending.packetizer) gaps.run.times.promises.released.units
      (received_steps samples 0 (plain_of (asked_steps_of samples all_steps s t)) t.link.wire.sends) turns end)

-- for every run whose receiver requests what is missing, and whose sender answers by its history, which answers at any time
abbrev pub LostPacketsComeBack : Type 0
LostPacketsComeBack =
    (samples : List Sample) (all_steps : List AnsweredStep) (sender : Sending) (history : Past) (receiver : Session) (settings : NackSettings) (t : Answering)
    → AnsweredRuns samples all_steps (begins_answering sender history receiver settings) t → next_id sender.packetizer ≡ None → AnswersReceiver history receiver
    → history.interval ≡ 0
    → IsWithinWindows samples (plain_of (asked_steps_of samples all_steps (begins_answering sender history receiver settings) t)) sender receiver t.link.wire.sends
    → ComeBack samples all_steps settings (begins_answering sender history receiver settings) t
