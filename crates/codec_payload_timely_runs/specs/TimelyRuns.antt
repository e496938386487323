-- When the units of a run are popped, if pops come until None after each delivery and at each deadline.
use Rattle.std.specs.Prelude.{◌≡◌, ℕ, ◌+◌, ◌<◌, ◌≤◌, ◌⊎◌, max, true, Bool, List, [], ◌∷◌, ◌++◌, Option, Some, None, Contains, slice_get}
use Rattle.codec_payload_base.specs.declared.wire.Ticks.{Ticks}
use Rattle.codec_payload_buffer.specs.Blanks.{ready_since_of, received_of}
use Rattle.codec_payload_buffer.specs.Frames.{frames}
use Rattle.codec_payload_buffer.specs.Held.{Held, has_number}
use Rattle.codec_payload_buffer.specs.Steps.{State}
use Rattle.codec_payload_buffer.specs.declared.buffer.frames.CompleteFrame.{CompleteFrame}
use Rattle.codec_payload_codec.specs.Packetizers.{may_split}
use Rattle.codec_payload_metadata.specs.declared.meta.RtpMeta.{RtpMeta}
use Rattle.codec_payload_payloader.specs.Packets.{Packet}
use Rattle.codec_payload_payloader.specs.Sending.{Sample}
use Rattle.codec_payload_buffer_runs.specs.Headline.{packets_before}
use Rattle.codec_payload_buffer_runs.specs.Log.{Stretch, Turn}
use Rattle.codec_payload_buffer_runs.specs.RunUnits.{IsAmong, IsHeldWhole, LosesPacketIn, ReleasesWhole}
use Rattle.codec_payload_buffer_runs.specs.Schedule.{Answer}
use Rattle.codec_payload_buffer_runs.specs.SentStream.{SentUnit}
use Rattle.codec_payload_receiver.specs.Sessions.{Session}
use Rattle.codec_payload_sending.specs.Senders.{Sending}
use Rattle.codec_payload_datagram_runs.specs.Deliveries.{IsCutoffBelow}
use Rattle.codec_payload_sending_history.specs.Packets.{Past}
use Rattle.codec_payload_datagram_runs.specs.HistoryReleases.{AnswersReceiver, plain_steps_of}
use Rattle.codec_payload_datagram_runs.specs.HistoryRuns.{HistoryRuns, Resending, begins_with}
use Rattle.codec_payload_datagram_runs.specs.Releases.{IsKnownOf, IsWithinWindows, received_steps}
use Rattle.codec_payload_datagram_runs.specs.WireLogs.{KeepsPromises, OfEachLog}
use Rattle.codec_payload_datagram_runs.specs.WireRuns.{Runs, Wire, begins}
use Rattle.codec_payload_datagram_runs.specs.declared.history_run.HistoryStep.{HistoryStep}
use Rattle.codec_payload_datagram_runs.specs.declared.run.DatagramStep.{DatagramStep}
use Rattle.codec_payload_datagram_runs.specs.declared.run.DatagramStep.TheVariants as steps

-- Premise: pops come until None after each delivery and at each deadline, and times do not fall

-- the times of the pops of these steps, in order
abbrev pub pop_times : List DatagramStep → List ℕ
pop_times [] = []
pop_times (steps.Send i ∷ later) = pop_times later
pop_times (steps.Deliver k now ∷ later) = pop_times later
pop_times (steps.Pop now ∷ later) = now.0 ∷ pop_times later
pop_times (steps.Finish ∷ later) = pop_times later

-- `max_wait` after this time, if there is one
abbrev pub due_at : (max_wait : ℕ) → Option Ticks → Option ℕ
due_at max_wait None = None
due_at max_wait (Some since) = Some (since.0 + max_wait)

-- which delivery or pop comes next
pub data Expected : Type 0 where
  -- one at this time, at which a datagram was delivered, or a unit popped
  At : ℕ → Expected
  -- one from this time on, at which a pop answered None, and by the deadline, if there is one; or none
  From : ℕ → Option ℕ → Expected

-- it may come at this time. A deadline that has passed is met by a pop at once
abbrev pub IsExpected : Expected → ℕ → Type 0
IsExpected (At t) now = now ≡ t
IsExpected (From t None) now = t ≤ now
IsExpected (From t (Some deadline)) now = (t ≤ now) × (now ≤ max t deadline)

-- none has to come
abbrev pub MayEnd : Expected → Type 0
MayEnd (At t) = ⊥
MayEnd (From t deadline) = Unit {0}

-- what comes after a pop at this time, with this answer, that leaves this buffer. The deadline is `max_wait` after the packet with the
-- highest number of the first complete frame arrived, as `next_deadline` of the receiver says
abbrev pub expected_after : (max_wait now : ℕ) → Answer → State → Expected
expected_after max_wait now None s = From now (due_at max_wait (ready_since_of s))
expected_after max_wait now (Some answer) s = At now

-- the steps of a receiver, and a turn for each of their pops
abbrev pub PopsInTime : (max_wait : ℕ) → Expected → List DatagramStep → List Turn → Type 0
PopsInTime max_wait e [] turns = MayEnd e
PopsInTime max_wait e (steps.Send i ∷ later) turns = PopsInTime max_wait e later turns
PopsInTime max_wait e (steps.Deliver k now ∷ later) turns = IsExpected e now.0 × PopsInTime max_wait (At now.0) later turns
PopsInTime max_wait e (steps.Pop now ∷ later) [] = ⊥
PopsInTime max_wait e (steps.Pop now ∷ later) (turn ∷ turns) =
    IsExpected e now.0 × PopsInTime max_wait (expected_after max_wait now.0 turn.answer turn.after) later turns
PopsInTime max_wait e (steps.Finish ∷ later) turns = PopsInTime max_wait e later turns

-- the same for a whole run
abbrev pub PopsInTimeFrom0 : (max_wait : ℕ) → List DatagramStep → List Turn → Type 0
PopsInTimeFrom0 max_wait received turns = PopsInTime max_wait (From 0 None) received turns

-- The bound: `by` is a time

-- Before one of these pops, which is made at `by` or earlier, all packets with the numbers from `low` up to `high` were pushed: in
-- `pushed`, or since then. Each earlier one of these pops left the cutoff below them
abbrev pub ComesBy : (by low high : ℕ) (pushed : List Held) → (times : List ℕ) → List Turn → Type 0
ComesBy by low high pushed [] turns = ⊥
ComesBy by low high pushed (time ∷ times) [] = ⊥
ComesBy by low high pushed (time ∷ times) (turn ∷ turns) =
    ((time ≤ by) × ((n : ℕ) → low ≤ n → n < high → has_number n (pushed ++ turn.stretch.pushes) ≡ true))
    ⊎ (IsCutoffBelow low turn.after.cutoff × ComesBy by low high (pushed ++ turn.stretch.pushes) times turns)

-- each complete frame below `high` is due at `by` or earlier: `max_wait` after its packet with the highest number arrived
abbrev pub AreDueBy : (max_wait by high : ℕ) → State → Type 0
AreDueBy max_wait by high s =
    (f : CompleteFrame) (since : Ticks) → Contains (frames s.held) f → f.last < high → received_of f.last s.held ≡ Some since → since.0 + max_wait ≤ by

-- the same before and after each of these pops
abbrev pub AllDueBy : (max_wait by high : ℕ) → List Turn → Type 0
AllDueBy max_wait by high [] = Unit {0}
AllDueBy max_wait by high (turn ∷ turns) = AreDueBy max_wait by high turn.stretch.now × AreDueBy max_wait by high turn.after × AllDueBy max_wait by high turns

-- Guarantees

-- one of these pops, which is made at `by` or earlier, has P
abbrev pub SomePopBy : (by : ℕ) → (Turn → Type 0) → (times : List ℕ) → List Turn → Type 0
SomePopBy by P [] turns = ⊥
SomePopBy by P (time ∷ times) [] = ⊥
SomePopBy by P (time ∷ times) (turn ∷ turns) = ((time ≤ by) × P turn) ⊎ SomePopBy by P times turns

-- all times are before `by`
abbrev pub AllBefore : (by : ℕ) → (times : List ℕ) → Type 0
AllBefore by [] = Unit {0}
AllBefore by (time ∷ times) = (time < by) × AllBefore by times

-- a unit is popped whole at `by` or earlier; or a pop skipped it by then; or a packet of it was evicted; or the run ended earlier,
-- and the unit is held whole
pub data LeavesBy (known : ℕ → Packet → RtpMeta → Type 0) (first : ℕ) (splits : Bool) (units : List SentUnit) (place by : ℕ) (times : List ℕ) (turns : List Turn) (end : Stretch) : Type 0 where
  released : SomePopBy by (λ (turn : Turn). ReleasesWhole known splits units place turn.answer) times turns → LeavesBy known first splits units place by times turns end
  skipped_over : SomePopBy by (λ (turn : Turn). IsAmong first units place turn.passed) times turns → LeavesBy known first splits units place by times turns end
  evicted : LosesPacketIn first units place turns end → LeavesBy known first splits units place by times turns end
  held : IsHeldWhole first units place end.now → AllBefore by times → LeavesBy known first splits units place by times turns end

-- each unit whose packets all come by a time, at which also each complete frame at or before it is due, is popped by then
abbrev pub AllComeInTime : (known : ℕ → Packet → RtpMeta → Type 0) (max_wait first : ℕ) (splits : Bool) (units : List SentUnit) (times : List ℕ) (turns : List Turn) (end : Stretch) → Type 0
AllComeInTime known max_wait first splits units times turns end =
    (place by : ℕ) (u : SentUnit) → slice_get units place ≡ Some u
    → ComesBy by (first + packets_before place units) (first + packets_before (place + 1) units) [] times turns
    → AllDueBy max_wait by (first + packets_before (place + 1) units) turns
    → LeavesBy known first splits units place by times turns end

-- Each delivery, by these steps, of a packet with a number below `high` was made `max_wait` before `by`, or earlier. The datagram with the
-- index 0 has the number `first`
abbrev pub AreDeliveredBy : (max_wait by first high : ℕ) → List DatagramStep → Type 0
AreDeliveredBy max_wait by first high received = (k : ℕ) (now : Ticks) → Contains received (steps.Deliver k now) → first + k < high → now.0 + max_wait ≤ by

-- the same with the deliveries alone: each unit whose packets all come by a time is popped by then, if all packets up to its last one
-- that are delivered at all come `max_wait` before it
abbrev pub AllComeAfterDeliveries : (known : ℕ → Packet → RtpMeta → Type 0) (max_wait first : ℕ) (splits : Bool) (units : List SentUnit) → List DatagramStep → List Turn → Stretch → Type 0
AllComeAfterDeliveries known max_wait first splits units received turns end =
    (place by : ℕ) (u : SentUnit) → slice_get units place ≡ Some u
    → ComesBy by (first + packets_before place units) (first + packets_before (place + 1) units) [] (pop_times received) turns
    → AreDeliveredBy max_wait by first (first + packets_before (place + 1) units) received
    → LeavesBy known first splits units place by (pop_times received) turns end

-- at this time a complete frame below `high` still waits: its packet with the highest number arrived less than `max_wait` before
abbrev pub SomeWaits : (max_wait high now : ℕ) → State → Type 0
SomeWaits max_wait high now s =
    (f : CompleteFrame) × (since : Ticks) × Contains (frames s.held) f × (f.last < high) × (received_of f.last s.held ≡ Some since) × (now < since.0 + max_wait)

-- if a pop answers None and leaves a unit that is held whole, such a frame is at or before the unit
abbrev pub NoneIsOverdue : (max_wait first : ℕ) (units : List SentUnit) (times : List ℕ) → List Turn → Type 0
NoneIsOverdue max_wait first units [] turns = Unit {0}
NoneIsOverdue max_wait first units (time ∷ times) [] = ⊥
NoneIsOverdue max_wait first units (time ∷ times) (turn ∷ turns) =
    (turn.answer ≡ None → (place : ℕ) (u : SentUnit) → slice_get units place ≡ Some u → IsHeldWhole first units place turn.after
    → SomeWaits max_wait (first + packets_before (place + 1) units) time turn.stretch.now)
    × NoneIsOverdue max_wait first units times turns

-- the guarantees of a run, with the times at which units come
pub record KeepsTimes (samples : List Sample) (all_steps : List DatagramStep) (s t : Wire) : Type 0 where
  -- The guarantees of a run, pop by pop.
  pub promises : KeepsPromises samples all_steps s t
  -- A unit that is held whole after a pop that answers None waits behind a frame that is not due.
  pub none_overdue : (max_wait : ℕ) → s.session.packets.wait_limits.max_wait ≡ Some max_wait
      → OfEachLog samples all_steps s t promises.released.units
      (λ turns end. NoneIsOverdue max_wait promises.first promises.released.units (pop_times (received_steps samples 0 all_steps t.sends)) turns)
  -- If pops come until None after each delivery and at each deadline, each unit comes in time.
  pub in_time : (max_wait : ℕ) → s.session.packets.wait_limits.max_wait ≡ Some max_wait
      → OfEachLog samples all_steps s t promises.released.units
      (λ turns end. PopsInTimeFrom0 max_wait (received_steps samples 0 all_steps t.sends) turns
      → AllComeInTime (IsKnownOf samples all_steps s t promises.released.units) max_wait promises.first (may_split s.sending.packetizer) promises.released.units
      (pop_times (received_steps samples 0 all_steps t.sends)) turns end)
  -- The same with a bound by the deliveries alone: `max_wait` after the latest one of a packet up to the unit's last.
  pub after_deliveries : (max_wait : ℕ) → s.session.packets.wait_limits.max_wait ≡ Some max_wait
      → OfEachLog samples all_steps s t promises.released.units
      (λ turns end. PopsInTimeFrom0 max_wait (received_steps samples 0 all_steps t.sends) turns
      → AllComeAfterDeliveries (IsKnownOf samples all_steps s t promises.released.units) max_wait promises.first (may_split s.sending.packetizer) promises.released.units
      (received_steps samples 0 all_steps t.sends) turns end)

-- this applies to a run whose samples can be read, and whose datagrams arrive within the windows
abbrev pub KeepsTimesWithinWindows : List Sample → List DatagramStep → Wire → Wire → Type 0
KeepsTimesWithinWindows samples all_steps s t = IsWithinWindows samples all_steps s.sending s.session t.sends → KeepsTimes samples all_steps s t

-- for every run over datagrams
abbrev pub TimesOverDatagrams : Type 0
TimesOverDatagrams =
    (samples : List Sample) (all_steps : List DatagramStep) (sender : Sending) (receiver : Session) (t : Wire)
    → Runs samples all_steps (begins sender receiver) t → KeepsTimesWithinWindows samples all_steps (begins sender receiver) t

-- The same of a run with retransmissions: each delivered retransmission is a delivery of the datagram that it repeats
abbrev pub KeepsTimesWithHistory : List Sample → List HistoryStep → Resending → Resending → Type 0
KeepsTimesWithHistory samples all_steps s t =
    AnswersReceiver s.history s.wire.session → IsWithinWindows samples (plain_steps_of samples all_steps s t) s.wire.sending s.wire.session t.wire.sends
    → KeepsTimes samples (plain_steps_of samples all_steps s t) s.wire t.wire

-- for every run with a history
abbrev pub TimesWithHistory : Type 0
TimesWithHistory =
    (samples : List Sample) (all_steps : List HistoryStep) (sender : Sending) (history : Past) (receiver : Session) (t : Resending)
    → HistoryRuns samples all_steps (begins_with sender history receiver) t → KeepsTimesWithHistory samples all_steps (begins_with sender history receiver) t
