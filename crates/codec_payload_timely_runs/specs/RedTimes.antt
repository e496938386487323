-- When the units of a run in RED are popped, if pops come until None after each delivery and at each deadline.
use Rattle.std.specs.Prelude.{◌≡◌, ℕ, ◌+◌, ◌<◌, ◌≤◌, Bool, List, [], Some, Contains, slice_get}
use Rattle.codec_payload_base.specs.declared.wire.Ticks.{Ticks}
use Rattle.codec_payload_codec.specs.Packetizers.{may_split}
use Rattle.codec_payload_metadata.specs.declared.meta.RtpMeta.{RtpMeta}
use Rattle.codec_payload_payloader.specs.Packets.{Packet}
use Rattle.codec_payload_payloader.specs.Sending.{Sample}
use Rattle.codec_payload_buffer_runs.specs.Headline.{packets_before}
use Rattle.codec_payload_buffer_runs.specs.Log.{Stretch, Turn}
use Rattle.codec_payload_buffer_runs.specs.SentStream.{SentUnit}
use Rattle.codec_payload_receiver.specs.Sessions.{Session}
use Rattle.codec_payload_sending.specs.Senders.{Sending}
use Rattle.codec_payload_sending_red.specs.Writers.{Writer}
use Rattle.codec_payload_sending_history.specs.Packets.{Past}
use Rattle.codec_payload_datagram_runs.specs.RedHistoryReleases.{AnswersInRed, red_plain_steps_of}
use Rattle.codec_payload_datagram_runs.specs.RedHistoryRuns.{RedHistoryRuns, RedResending, begins_in_red_with}
use Rattle.codec_payload_datagram_runs.specs.RedLogs.{KeepsRedPromises, OfEachRedLog, StaysInTurn}
use Rattle.codec_payload_datagram_runs.specs.RedReleases.{Carries, IsInRedWithinWindows, IsKnownInRed}
use Rattle.codec_payload_datagram_runs.specs.RedRuns.{RedRuns, RedWire, begins_in_red}
use Rattle.codec_payload_datagram_runs.specs.Releases.{delivered, received_steps}
use Rattle.codec_payload_datagram_runs.specs.declared.history_run.HistoryStep.{HistoryStep}
use Rattle.codec_payload_datagram_runs.specs.declared.run.DatagramStep.{DatagramStep}
use Rattle.codec_payload_datagram_runs.specs.declared.run.DatagramStep.TheVariants as steps
use Rattle.codec_payload_timely_runs.specs.TimelyRuns.{AllComeInTime, ComesBy, LeavesBy, NoneIsOverdue, PopsInTimeFrom0, pop_times}

-- Each delivery, by these steps, of a datagram that carries a packet with a number below `high` was made `max_wait` before `by`, or
-- earlier. The packet with the index 0 has the number `first`
abbrev pub AreCarriedBy : (max_wait by first high : ℕ) → Writer → List (List ℕ) → List DatagramStep → Type 0
AreCarriedBy max_wait by first high w sent received =
    (carrier k : ℕ) (now : Ticks) → Contains received (steps.Deliver carrier now) → Carries w sent carrier k → first + k < high → now.0 + max_wait ≤ by

-- with the deliveries alone: each unit whose packets all come by a time is popped by then, if all datagrams that carry a packet up to its
-- last one, and are delivered at all, come `max_wait` before it
abbrev pub AllComeAfterCarriers : (known : ℕ → Packet → RtpMeta → Type 0) (max_wait first : ℕ) (splits : Bool) (units : List SentUnit) → Writer → List (List ℕ) → List DatagramStep → List Turn → Stretch → Type 0
AllComeAfterCarriers known max_wait first splits units w sent received turns end =
    (place by : ℕ) (u : SentUnit) → slice_get units place ≡ Some u
    → ComesBy by (first + packets_before place units) (first + packets_before (place + 1) units) [] (pop_times received) turns
    → AreCarriedBy max_wait by first (first + packets_before (place + 1) units) w sent received
    → LeavesBy known first splits units place by (pop_times received) turns end

-- the guarantees of a run in RED, with the times at which units come. A block arrives with the datagram that brings it
pub record KeepsRedTimes (samples : List Sample) (all_steps : List DatagramStep) (s t : RedWire) : Type 0 where
  -- The guarantees of a run in RED, pop by pop.
  pub promises : KeepsRedPromises samples all_steps s t
  -- A unit that is held whole after a pop that answers None waits behind a frame that is not due.
  pub none_overdue : (max_wait : ℕ) → s.wire.session.packets.wait_limits.max_wait ≡ Some max_wait
      → OfEachRedLog samples all_steps s t promises.released.units
      (λ turns end. NoneIsOverdue max_wait promises.first promises.released.units (pop_times (received_steps samples 0 all_steps t.wire.sends)) turns)
  -- If pops come until None after each delivery and at each deadline, each unit comes in time.
  pub in_time : (max_wait : ℕ) → s.wire.session.packets.wait_limits.max_wait ≡ Some max_wait
      → OfEachRedLog samples all_steps s t promises.released.units
      (λ turns end. PopsInTimeFrom0 max_wait (received_steps samples 0 all_steps t.wire.sends) turns
      → AllComeInTime (IsKnownInRed samples all_steps s t) max_wait promises.first (may_split s.wire.sending.packetizer) promises.released.units
      (pop_times (received_steps samples 0 all_steps t.wire.sends)) turns end)
  -- The same with a bound by the deliveries alone: `max_wait` after the latest one that carries a packet up to the unit's last.
  pub after_deliveries : (max_wait : ℕ) → s.wire.session.packets.wait_limits.max_wait ≡ Some max_wait
      → OfEachRedLog samples all_steps s t promises.released.units
      (λ turns end. PopsInTimeFrom0 max_wait (received_steps samples 0 all_steps t.wire.sends) turns
      → AllComeAfterCarriers (IsKnownInRed samples all_steps s t) max_wait promises.first (may_split s.wire.sending.packetizer) promises.released.units
      s.writer t.wire.datagrams (received_steps samples 0 all_steps t.wire.sends) turns end)

-- this applies to a run that meets the premises
abbrev pub KeepsTimesInRed : List Sample → List DatagramStep → RedWire → RedWire → Type 0
KeepsTimesInRed samples all_steps s t =
    (within : IsInRedWithinWindows samples all_steps s t) → StaysInTurn within.red.step within.plain.settings.backward (delivered (received_steps samples 0 all_steps t.wire.sends))
    → KeepsRedTimes samples all_steps s t

-- for every run in RED
abbrev pub TimesInRed : Type 0
TimesInRed =
    (samples : List Sample) (all_steps : List DatagramStep) (sender : Sending) (writer : Writer) (receiver : Session) (t : RedWire)
    → RedRuns samples all_steps (begins_in_red sender writer receiver) t → KeepsTimesInRed samples all_steps (begins_in_red sender writer receiver) t

-- The same of a run in RED with retransmissions: each delivered retransmission is a delivery of the datagram that it repeats
abbrev pub KeepsTimesInRedWithHistory : List Sample → List HistoryStep → RedResending → RedResending → Type 0
KeepsTimesInRedWithHistory samples all_steps s t =
    AnswersInRed s.history s.red.wire.session → KeepsTimesInRed samples (red_plain_steps_of samples all_steps s t) s.red t.red

-- for every run in RED with a history
abbrev pub TimesInRedWithHistory : Type 0
TimesInRedWithHistory =
    (samples : List Sample) (all_steps : List HistoryStep) (sender : Sending) (writer : Writer) (history : Past) (receiver : Session) (t : RedResending)
    → RedHistoryRuns samples all_steps (begins_in_red_with sender writer history receiver) t
    → KeepsTimesInRedWithHistory samples all_steps (begins_in_red_with sender writer history receiver) t
