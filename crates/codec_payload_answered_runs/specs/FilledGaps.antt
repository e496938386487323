-- Runs over datagrams in which each gap is filled before a frame behind it is due: each unit is popped, whole and in turn.
use Rattle.std.specs.Prelude.{◌≡◌, ℕ, ◌+◌, ◌<◌, ◌≤◌, ◌⊎◌, ◌==◌, ◌||◌, Bool, true, false, List, [], ◌∷◌, Some, None, slice_get}
use Rattle.codec_payload_codec.specs.Packetizers.{may_split}
use Rattle.codec_payload_jitter.specs.Receiving.{Receiving}
use Rattle.codec_payload_metadata.specs.declared.meta.RtpMeta.{RtpMeta}
use Rattle.codec_payload_payloader.specs.Packets.{Packet}
use Rattle.codec_payload_payloader.specs.Sending.{Sample}
use Rattle.codec_payload_sending.specs.Senders.{Sending}
use Rattle.codec_payload_sending_history.specs.Packets.{Past}
use Rattle.codec_payload_receiver.specs.Sessions.{Session}
use Rattle.codec_payload_buffer_runs.specs.Headline.{packets_before}
use Rattle.codec_payload_buffer_runs.specs.Log.{Stretch, Turn}
use Rattle.codec_payload_buffer_runs.specs.ReportedIds.{next_id}
use Rattle.codec_payload_buffer_runs.specs.RunUnits.{AreNext, IsHeldWhole, ReleasesWhole, count_after}
use Rattle.codec_payload_buffer_runs.specs.Schedule.{Answer}
use Rattle.codec_payload_buffer_runs.specs.SentStream.{SentUnit}
use Rattle.codec_payload_datagram_runs.specs.HistoryReleases.{AnswersReceiver, plain_steps_of}
use Rattle.codec_payload_datagram_runs.specs.HistoryRuns.{HistoryRuns, Resending, begins_with}
use Rattle.codec_payload_datagram_runs.specs.Releases.{IsKnownOf, IsWithinWindows, received_steps}
use Rattle.codec_payload_datagram_runs.specs.WireLogs.{OfEachLog}
use Rattle.codec_payload_datagram_runs.specs.WireRuns.{Runs, Wire, begins}
use Rattle.codec_payload_datagram_runs.specs.declared.history_run.HistoryStep.{HistoryStep}
use Rattle.codec_payload_datagram_runs.specs.declared.run.DatagramStep.{DatagramStep}
use Rattle.codec_payload_datagram_runs.specs.declared.run.DatagramStep.TheVariants as steps
use Rattle.codec_payload_timely_runs.specs.TimelyRuns.{AllBefore, AreDeliveredBy, KeepsTimes, PopsInTimeFrom0, SomePopBy, pop_times}

-- Premises

-- a datagram that came: its index among the sent ones, and when it came
pub record Came : Type 0 where
  pub datagram : ℕ
  pub at : ℕ

-- the datagram with this index came
abbrev pub has_come : ℕ → List Came → Bool
has_come k [] = false
has_come k (x ∷ xs) = (x.datagram == k) || has_come k xs

-- it came at this time
abbrev pub CameAt : (k at : ℕ) → List Came → Type 0
CameAt k at [] = ⊥
CameAt k at (x ∷ xs) = ((x.datagram ≡ k) × (x.at ≡ at)) ⊎ CameAt k at xs

-- Before this time, of the datagrams below one that came `max_wait` ago or earlier, each has come
abbrev pub AreFilledAt : (max_wait now : ℕ) → List Came → Type 0
AreFilledAt max_wait now xs = (k at j : ℕ) → CameAt k at xs → at + max_wait ≤ now → j < k → has_come j xs ≡ true

-- the datagrams of the first unit (`size` of them) have all come; or neither its last one nor a later one has come
abbrev pub StartsWhole : (size : ℕ) → List Came → Type 0
StartsWhole size xs = ((k : ℕ) → k < size → has_come k xs ≡ true) ⊎ ((k : ℕ) → has_come k xs ≡ true → k + 1 < size)

-- so it is at each pop of these steps, and the stream does not end; `xs` came before them
abbrev pub GapsAreFilled : (max_wait size : ℕ) → List Came → List DatagramStep → Type 0
GapsAreFilled max_wait size xs [] = Unit {0}
GapsAreFilled max_wait size xs (steps.Send i ∷ later) = GapsAreFilled max_wait size xs later
GapsAreFilled max_wait size xs (steps.Deliver k now ∷ later) = GapsAreFilled max_wait size (record { datagram = k; at = now.0 } ∷ xs) later
GapsAreFilled max_wait size xs (steps.Pop now ∷ later) = AreFilledAt max_wait now.0 xs × StartsWhole size xs × GapsAreFilled max_wait size xs later
GapsAreFilled max_wait size xs (steps.Finish ∷ later) = ⊥

-- The receiver keeps up: when a datagram comes, fewer than `limit` - `room` datagrams lie from the first one of the next unit up to it.
-- So the buffer has room. `p` units were popped before these steps, and these are the answers of the pops
abbrev pub KeepsUp : (room limit : ℕ) → List SentUnit → (p : ℕ) → List DatagramStep → List Answer → Type 0
KeepsUp room limit units p [] answers = Unit {0}
KeepsUp room limit units p (steps.Send i ∷ later) answers = KeepsUp room limit units p later answers
KeepsUp room limit units p (steps.Deliver k now ∷ later) answers = (k + room < packets_before p units + limit) × KeepsUp room limit units p later answers
KeepsUp room limit units p (steps.Pop now ∷ later) [] = ⊥
KeepsUp room limit units p (steps.Pop now ∷ later) (answer ∷ answers) = KeepsUp room limit units (count_after p answer) later answers
KeepsUp room limit units p (steps.Finish ∷ later) answers = KeepsUp room limit units p later answers

-- the receiver waits for missing packets by time alone
pub record WaitsByTime (max_wait : ℕ) (r : Receiving) : Type 0 where
  pub some : 0 < max_wait
  pub limit : r.wait_limits.max_wait ≡ Some max_wait
  pub by_time : r.wait_limits.hold_back ≡ None

-- Guarantees

-- all datagrams with the indices from `low` up to `high` come before one of these pops, which is made at `by` or earlier
abbrev pub AllComeBy : (by low high : ℕ) → List Came → List DatagramStep → Type 0
AllComeBy by low high xs [] = ⊥
AllComeBy by low high xs (steps.Send i ∷ later) = AllComeBy by low high xs later
AllComeBy by low high xs (steps.Deliver k now ∷ later) = AllComeBy by low high (record { datagram = k; at = now.0 } ∷ xs) later
AllComeBy by low high xs (steps.Pop now ∷ later) = ((now.0 ≤ by) × ((k : ℕ) → low ≤ k → k < high → has_come k xs ≡ true)) ⊎ AllComeBy by low high xs later
AllComeBy by low high xs (steps.Finish ∷ later) = AllComeBy by low high xs later

-- a pop returns the unit whole at `by` or earlier; or the run ended before that time, with the unit held whole
abbrev pub IsPoppedBy : (known : ℕ → Packet → RtpMeta → Type 0) (first : ℕ) (splits : Bool) (units : List SentUnit) (place by : ℕ) (times : List ℕ) → List Turn → Stretch → Type 0
IsPoppedBy known first splits units place by times turns end =
    SomePopBy by (λ (turn : Turn). ReleasesWhole known splits units place turn.answer) times turns ⊎ (IsHeldWhole first units place end.now × AllBefore by times)

-- each unit whose packets all come by a time is popped by then, if all packets up to its last one that come at all come `max_wait`
-- before it
abbrev pub AllArePopped : (known : ℕ → Packet → RtpMeta → Type 0) (max_wait first : ℕ) (splits : Bool) (units : List SentUnit) → List DatagramStep → List Turn → Stretch → Type 0
AllArePopped known max_wait first splits units received turns end =
    (place by : ℕ) (u : SentUnit) → slice_get units place ≡ Some u → AllComeBy by (packets_before place units) (packets_before (place + 1) units) [] received
    → AreDeliveredBy max_wait by first (first + packets_before (place + 1) units) received
    → IsPoppedBy known first splits units place by (pop_times received) turns end

-- how many datagrams the first unit has
abbrev pub first_size : List SentUnit → ℕ
first_size units = packets_before 1 units

-- The guarantees of a run in which each gap is filled. The pops return the units in turn, from the first one that was sent on, each
-- whole and none left out; and each in time, if pops come until None after each delivery and at each deadline
pub record LosesNone (samples : List Sample) (all_steps : List DatagramStep) (s t : Wire) : Type 0 where
  pub times : KeepsTimes samples all_steps s t
  pub in_turn : (max_wait : ℕ) → WaitsByTime max_wait s.session.packets
      → KeepsUp s.session.packets.room s.session.packets.buffer.limit times.promises.released.units 0 (received_steps samples 0 all_steps t.sends) t.pops
      → GapsAreFilled max_wait (first_size times.promises.released.units) [] (received_steps samples 0 all_steps t.sends)
      → AreNext (IsKnownOf samples all_steps s t times.promises.released.units) (may_split s.sending.packetizer) times.promises.released.units 0 t.pops
  pub in_time : (max_wait : ℕ) → WaitsByTime max_wait s.session.packets
      → KeepsUp s.session.packets.room s.session.packets.buffer.limit times.promises.released.units 0 (received_steps samples 0 all_steps t.sends) t.pops
      → GapsAreFilled max_wait (first_size times.promises.released.units) [] (received_steps samples 0 all_steps t.sends)
      → OfEachLog samples all_steps s t times.promises.released.units
      (λ turns end. PopsInTimeFrom0 max_wait (received_steps samples 0 all_steps t.sends) turns
      → AllArePopped (IsKnownOf samples all_steps s t times.promises.released.units) max_wait times.promises.first (may_split s.sending.packetizer) times.promises.released.units
      (received_steps samples 0 all_steps t.sends) turns end)

-- this applies to a run whose samples can be read, and whose datagrams arrive within the windows, of a codec that does not send both
-- picture id and TL0PICIDX
abbrev pub LosesNoneWithinWindows : List Sample → List DatagramStep → Wire → Wire → Type 0
LosesNoneWithinWindows samples all_steps s t =
    next_id s.sending.packetizer ≡ None → IsWithinWindows samples all_steps s.sending s.session t.sends → LosesNone samples all_steps s t

-- for every run over datagrams
abbrev pub FilledGapsLoseNone : Type 0
FilledGapsLoseNone =
    (samples : List Sample) (all_steps : List DatagramStep) (sender : Sending) (receiver : Session) (t : Wire)
    → Runs samples all_steps (begins sender receiver) t → LosesNoneWithinWindows samples all_steps (begins sender receiver) t

-- the same of a run with retransmissions, about its plain steps
abbrev pub LosesNoneWithHistory : List Sample → List HistoryStep → Resending → Resending → Type 0
LosesNoneWithHistory samples all_steps s t =
    next_id s.wire.sending.packetizer ≡ None → AnswersReceiver s.history s.wire.session
    → IsWithinWindows samples (plain_steps_of samples all_steps s t) s.wire.sending s.wire.session t.wire.sends
    → LosesNone samples (plain_steps_of samples all_steps s t) s.wire t.wire

-- for every run with a history
abbrev pub FilledGapsLoseNoneWithHistory : Type 0
FilledGapsLoseNoneWithHistory =
    (samples : List Sample) (all_steps : List HistoryStep) (sender : Sending) (history : Past) (receiver : Session) (t : Resending)
    → HistoryRuns samples all_steps (begins_with sender history receiver) t → LosesNoneWithHistory samples all_steps (begins_with sender history receiver) t
