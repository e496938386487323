-- A run over datagrams whose receiver requests what is missing: each number that is requested comes, if not too many of its requests
-- are in vain.
use Rattle.std.specs.Prelude.{◌≡◌, ℕ, zero, suc, ◌+◌, ◌*◌, ◌^◌, ◌<◌, ◌≤◌, ◌⊎◌, min, nat_lt, if◌then◌else◌, Bool, true, false, List, [], ◌∷◌, ◌++◌, Option, Some, None, slice_get}
use Rattle.codec_payload_feedback_requests.specs.declared.nack.NackSettings.{NackSettings}
use Rattle.codec_payload_feedback_requests.specs.NackRuns.{is_in}
use Rattle.codec_payload_feedback_requests.specs.NackSchedule.{Schedule, after_answer, after_due, due_numbers, earliest_of, new_schedule, refreshed}
use Rattle.codec_payload_codec.specs.Packetizers.{may_split}
use Rattle.codec_payload_jitter.specs.Missing.{missing_numbers}
use Rattle.codec_payload_payloader.specs.Sending.{Sample}
use Rattle.codec_payload_sending.specs.Senders.{Sending}
use Rattle.codec_payload_receiver.specs.Sessions.{Session}
use Rattle.codec_payload_buffer_runs.specs.ReportedIds.{next_id}
use Rattle.codec_payload_buffer_runs.specs.RunUnits.{AreNext}
use Rattle.codec_payload_datagram_runs.specs.WireLogs.{OfEachLog}
use Rattle.codec_payload_timely_runs.specs.TimelyRuns.{PopsInTimeFrom0}
use Rattle.codec_payload_datagram_runs.specs.Releases.{IsKnownOf, IsWithinWindows, delivered, received_steps, sends_after, sent_after}
use Rattle.codec_payload_datagram_runs.specs.WireRuns.{DoesStep, Wire, begins}
use Rattle.codec_payload_datagram_runs.specs.declared.run.DatagramStep.{DatagramStep}
use Rattle.codec_payload_datagram_runs.specs.declared.run.DatagramStep.TheVariants as steps
use Rattle.codec_payload_datagram_runs.specs.declared.run.SentSample.{SentSample}
use Rattle.codec_payload_answered_runs.specs.FilledGaps.{AllArePopped, Came, GapsAreFilled, KeepsUp, LosesNone, StartsWhole, WaitsByTime, first_size}
use Rattle.codec_payload_answered_runs.specs.Repeats.{IsBy, due_by, retry_most}

-- The run

-- a step of the run
pub data AskedStep : Type 0 where
  -- a step of the sender, the network or the receiver
  Does : DatagramStep → AskedStep
  -- the missing numbers of the receiver are handed to the schedule, and what is due is requested
  Asks : (now : ℕ) → AskedStep
  -- the schedule is informed that a retransmission of this number, in 16 bits, came
  NotesAnswer : (now number : ℕ) → AskedStep

-- the numbers that were requested, and the deadline of the schedule afterwards
pub record Asked : Type 0 where
  pub numbers : List ℕ
  pub deadline : Option ℕ

-- a sender, a receiver and the schedule of its requests, and what was requested so far
pub record Asking : Type 0 where
  pub wire : Wire
  pub schedule : Schedule
  pub asked : List Asked

-- before any step
abbrev pub begins_asking : Sending → Session → NackSettings → Asking
begins_asking sending session settings = record { wire = begins sending session; schedule = new_schedule settings; asked = [] }

-- the schedule with the missing numbers of a receiver
abbrev pub wanted_by : ℕ → Session → Schedule → Schedule
wanted_by now session s = refreshed now (missing_numbers session.packets s.settings.capacity) s

-- what is requested
abbrev pub asked_by : ℕ → Session → Schedule → Asked
asked_by now session s = record {
  numbers = due_numbers now (wanted_by now session s);
  deadline = earliest_of (after_due now (wanted_by now session s)).pending;
}

abbrev pub DoesAsked : List Sample → AskedStep → Asking → Asking → Type 0
DoesAsked samples (Does step) s t = (wire : Wire) × DoesStep samples step s.wire wire × (t ≡ record s { wire = wire })
DoesAsked samples (Asks now) s t =
    t ≡ record s { schedule = after_due now (wanted_by now s.wire.session s.schedule); asked = s.asked ++ asked_by now s.wire.session s.schedule ∷ [] }
DoesAsked samples (NotesAnswer now number) s t = t ≡ record s { schedule = after_answer now number s.schedule }

-- the steps, in order
abbrev pub AskedRuns : List Sample → List AskedStep → Asking → Asking → Type 0
AskedRuns samples [] s t = t ≡ s
AskedRuns samples (step ∷ later) s t = (mid : Asking) × DoesAsked samples step s mid × AskedRuns samples later mid t

-- the steps without those of the schedule
abbrev pub plain_of : List AskedStep → List DatagramStep
plain_of [] = []
plain_of (Does step ∷ later) = step ∷ plain_of later
plain_of (Asks now ∷ later) = plain_of later
plain_of (NotesAnswer now number ∷ later) = plain_of later

-- the steps of the receiver and of its schedule: a delivery of a datagram that was not sent yet is none
abbrev pub receiver_steps : List Sample → ℕ → List AskedStep → List SentSample → List AskedStep
receiver_steps samples sent [] sends = []
receiver_steps samples sent (Does (steps.Send i) ∷ later) sends = receiver_steps samples (sent_after sent (slice_get samples i) sends) later (sends_after (slice_get samples i) sends)
receiver_steps samples sent (Does (steps.Deliver k now) ∷ later) sends =
    if nat_lt k sent then Does (steps.Deliver k now) ∷ receiver_steps samples sent later sends else receiver_steps samples sent later sends
receiver_steps samples sent (Does (steps.Pop now) ∷ later) sends = Does (steps.Pop now) ∷ receiver_steps samples sent later sends
receiver_steps samples sent (Does steps.Finish ∷ later) sends = Does steps.Finish ∷ receiver_steps samples sent later sends
receiver_steps samples sent (Asks now ∷ later) sends = Asks now ∷ receiver_steps samples sent later sends
receiver_steps samples sent (NotesAnswer now number ∷ later) sends = NotesAnswer now number ∷ receiver_steps samples sent later sends

-- Premises

-- times do not fall, and 63 bits hold them
abbrev pub TimesRise : ℕ → List AskedStep → Type 0
TimesRise t [] = Unit {0}
TimesRise t (Does (steps.Send i) ∷ later) = TimesRise t later
TimesRise t (Does (steps.Deliver k now) ∷ later) = (t ≤ now.0) × (now.0 < 2 ^ 63) × TimesRise now.0 later
TimesRise t (Does (steps.Pop now) ∷ later) = (t ≤ now.0) × (now.0 < 2 ^ 63) × TimesRise now.0 later
TimesRise t (Does steps.Finish ∷ later) = TimesRise t later
TimesRise t (Asks now ∷ later) = (t ≤ now) × (now < 2 ^ 63) × TimesRise now later
TimesRise t (NotesAnswer now number ∷ later) = TimesRise t later

-- the earlier of two times by which something comes
abbrev pub sooner : Option ℕ → ℕ → Option ℕ
sooner None by = Some by
sooner (Some other) by = Some (min other by)

-- the schedule is polled at most `slack` after each delivery and after each of its deadlines; the next poll comes by `until`
abbrev pub AsksInTime : (slack : ℕ) (until : Option ℕ) → List AskedStep → List Asked → Type 0
AsksInTime slack until [] asked = Unit {0}
AsksInTime slack until (Does (steps.Send i) ∷ later) asked = AsksInTime slack until later asked
AsksInTime slack until (Does (steps.Deliver k now) ∷ later) asked = IsBy until now.0 × AsksInTime slack (sooner until (now.0 + slack)) later asked
AsksInTime slack until (Does (steps.Pop now) ∷ later) asked = IsBy until now.0 × AsksInTime slack until later asked
AsksInTime slack until (Does steps.Finish ∷ later) asked = AsksInTime slack until later asked
AsksInTime slack until (Asks now ∷ later) [] = ⊥
AsksInTime slack until (Asks now ∷ later) (x ∷ asked) = IsBy until now × AsksInTime slack (due_by slack now x.deadline) later asked
AsksInTime slack until (NotesAnswer now number ∷ later) asked = AsksInTime slack until later asked

-- the datagram with this index comes by then
abbrev pub ComesBy : (j by : ℕ) → List AskedStep → Type 0
ComesBy j by [] = ⊥
ComesBy j by (Does (steps.Send i) ∷ later) = ComesBy j by later
ComesBy j by (Does (steps.Deliver k now) ∷ later) = ((k ≡ j) × (now.0 ≤ by)) ⊎ ComesBy j by later
ComesBy j by (Does (steps.Pop now) ∷ later) = ComesBy j by later
ComesBy j by (Does steps.Finish ∷ later) = ComesBy j by later
ComesBy j by (Asks now ∷ later) = ComesBy j by later
ComesBy j by (NotesAnswer now number ∷ later) = ComesBy j by later

-- what holds if a number was requested, and what if not
abbrev pub IfAsked : Bool → Type 0 → Type 0 → Type 0
IfAsked true P Q = P
IfAsked false P Q = Q

-- of the first k + 1 requests for the datagram with this index, at most k are in vain: after one of them the datagram comes within this
-- time. The datagram has the number `first + j`
abbrev pub OneServes : (first within j k : ℕ) → List AskedStep → List Asked → Type 0
OneServes first within j k [] asked = Unit {0}
OneServes first within j k (Does step ∷ later) asked = OneServes first within j k later asked
OneServes first within j k (NotesAnswer now number ∷ later) asked = OneServes first within j k later asked
OneServes first within j k (Asks now ∷ later) [] = ⊥
OneServes first within j zero (Asks now ∷ later) (x ∷ asked) = IfAsked (is_in (first + j) x.numbers) (ComesBy j (now + within) later) (OneServes first within j zero later asked)
OneServes first within j (suc k) (Asks now ∷ later) (x ∷ asked) =
    IfAsked (is_in (first + j) x.numbers) (ComesBy j (now + within) later ⊎ OneServes first within j k later asked) (OneServes first within j (suc k) later asked)

-- Before each pop all datagrams of the first unit came, or neither its last one nor a later one did; and the stream does not end
abbrev pub FirstComesFirst : (size : ℕ) → List Came → List AskedStep → Type 0
FirstComesFirst size xs [] = Unit {0}
FirstComesFirst size xs (Does (steps.Send i) ∷ later) = FirstComesFirst size xs later
FirstComesFirst size xs (Does (steps.Deliver k now) ∷ later) = FirstComesFirst size (record { datagram = k; at = now.0 } ∷ xs) later
FirstComesFirst size xs (Does (steps.Pop now) ∷ later) = StartsWhole size xs × FirstComesFirst size xs later
FirstComesFirst size xs (Does steps.Finish ∷ later) = ⊥
FirstComesFirst size xs (Asks now ∷ later) = FirstComesFirst size xs later
FirstComesFirst size xs (NotesAnswer now number ∷ later) = FirstComesFirst size xs later

-- the first datagram that comes is the first one that was sent
abbrev pub BeginsAt0 : List ℕ → Type 0
BeginsAt0 [] = Unit {0}
BeginsAt0 (k ∷ ks) = k ≡ 0

-- the settings allow k + 1 tries in time: from the moment that a datagram behind a gap came until the last of these requests, and
-- `within` more, less than `max_wait` passes. The schedule follows as many numbers as the buffer of the receiver has places
pub record AllowsTries (settings : NackSettings) (max_wait slack within k limit : ℕ) : Type 0 where
  pub tries : k < settings.tries
  pub small : settings.tries < 2 ^ 32
  pub capacity : limit ≤ settings.capacity
  pub soon : slack + settings.first_wait + slack + k * (retry_most settings + slack) + within < max_wait
  pub short : max_wait < 2 ^ 63

-- the network: times do not fall; the schedule is polled in time; the first datagram comes first, and the first unit before others; at
-- most k requests for each datagram are in vain
pub record ServesRequests (first slack within k size : ℕ) (heard : List AskedStep) (asked : List Asked) : Type 0 where
  pub times : TimesRise 0 heard
  pub asks : AsksInTime slack None heard asked
  pub begins : BeginsAt0 (delivered (plain_of heard))
  pub first_unit : FirstComesFirst size [] heard
  pub serves : (j : ℕ) → OneServes first within j k heard asked

-- Guarantees

-- Each gap is filled before a frame behind it is due. So the pops return the units in turn, from the first one that was sent on, each
-- whole and none left out; and each in time, if pops come until None after each delivery and at each deadline
pub record FillsGaps (samples : List Sample) (all_steps : List AskedStep) (settings : NackSettings) (s t : Asking) : Type 0 where
  pub run : LosesNone samples (plain_of all_steps) s.wire t.wire
  pub filled : (max_wait slack within k : ℕ) → WaitsByTime max_wait s.wire.session.packets
      → KeepsUp s.wire.session.packets.room s.wire.session.packets.buffer.limit run.times.promises.released.units 0 (received_steps samples 0 (plain_of all_steps) t.wire.sends) t.wire.pops
      → AllowsTries settings max_wait slack within k s.wire.session.packets.buffer.limit
      → ServesRequests run.times.promises.first slack within k (first_size run.times.promises.released.units) (receiver_steps samples 0 all_steps t.wire.sends) t.asked
      → GapsAreFilled max_wait (first_size run.times.promises.released.units) [] (received_steps samples 0 (plain_of all_steps) t.wire.sends)
  pub in_turn : (max_wait slack within k : ℕ) → WaitsByTime max_wait s.wire.session.packets
      → KeepsUp s.wire.session.packets.room s.wire.session.packets.buffer.limit run.times.promises.released.units 0 (received_steps samples 0 (plain_of all_steps) t.wire.sends) t.wire.pops
      → AllowsTries settings max_wait slack within k s.wire.session.packets.buffer.limit
      → ServesRequests run.times.promises.first slack within k (first_size run.times.promises.released.units) (receiver_steps samples 0 all_steps t.wire.sends) t.asked
      → AreNext (IsKnownOf samples (plain_of all_steps) s.wire t.wire run.times.promises.released.units) (may_split s.wire.sending.packetizer) run.times.promises.released.units 0 t.wire.pops
  pub in_time : (max_wait slack within k : ℕ) → WaitsByTime max_wait s.wire.session.packets
      → KeepsUp s.wire.session.packets.room s.wire.session.packets.buffer.limit run.times.promises.released.units 0 (received_steps samples 0 (plain_of all_steps) t.wire.sends) t.wire.pops
      → AllowsTries settings max_wait slack within k s.wire.session.packets.buffer.limit
      → ServesRequests run.times.promises.first slack within k (first_size run.times.promises.released.units) (receiver_steps samples 0 all_steps t.wire.sends) t.asked
      → OfEachLog samples (plain_of all_steps) s.wire t.wire run.times.promises.released.units
      (λ turns end. PopsInTimeFrom0 max_wait (received_steps samples 0 (plain_of all_steps) t.wire.sends) turns
      → AllArePopped (IsKnownOf samples (plain_of all_steps) s.wire t.wire run.times.promises.released.units) max_wait run.times.promises.first (may_split s.wire.sending.packetizer)
      run.times.promises.released.units (received_steps samples 0 (plain_of all_steps) t.wire.sends) turns end)

-- for every run whose receiver requests what is missing
abbrev pub RequestsFillGaps : Type 0
RequestsFillGaps =
    (samples : List Sample) (all_steps : List AskedStep) (sender : Sending) (receiver : Session) (settings : NackSettings) (t : Asking)
    → AskedRuns samples all_steps (begins_asking sender receiver settings) t → next_id sender.packetizer ≡ None
    → IsWithinWindows samples (plain_of all_steps) sender receiver t.wire.sends → FillsGaps samples all_steps settings (begins_asking sender receiver settings) t
