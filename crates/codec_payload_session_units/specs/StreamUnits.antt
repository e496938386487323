-- The units that events of a session have of a stream, if what the stream was given is one sender's.
use Rattle.std.specs.Prelude.{◌≡◌, ◌⊎◌, ℕ, Bool, true, false, List, [], ◌∷◌, ◌++◌, Option, Some, None, Result, Ok, Err, length, map, slice_get}
use Rattle.std.specs.declared.alloc.AllocError.{AllocError}
use Rattle.codec_payload_base.specs.declared.error.PacketError.TheVariants as faults
use Rattle.codec_payload_buffer.specs.Steps.{arrived}
use Rattle.codec_payload_buffer_runs.specs.Headline.{InOrder}
use Rattle.codec_payload_buffer_runs.specs.Log.{Stretch, Turn, begun, with_pushes}
use Rattle.codec_payload_buffer_runs.specs.ReportedIds.{next_id}
use Rattle.codec_payload_buffer_runs.specs.RunOrder.{AllFollowAsSaid, AreStretches}
use Rattle.codec_payload_buffer_runs.specs.RunUnits.{IsGap, IsWholeAt, NoneIsLost, NonePassedOver}
use Rattle.codec_payload_buffer_runs.specs.RunValues.{values_of_run}
use Rattle.codec_payload_buffer_runs.specs.Schedule.{Answer}
use Rattle.codec_payload_buffer_runs.specs.SentStream.{AllEndWithTail, SentUnit, packets_of, units_of_run}
use Rattle.codec_payload_codec.specs.Packetizers.{is_video, may_split, payloads_by}
use Rattle.codec_payload_base.specs.declared.wire.Ticks.{Ticks}
use Rattle.codec_payload_base.specs.declared.wire.extension.ExtensionValues.{ExtensionValues}
use Rattle.codec_payload_datagram_runs.specs.Releases.{AreDatagrams, AreDeliveredBefore, IsDelivery, sending_steps}
use Rattle.codec_payload_datagram_runs.specs.WireLogs.{AllInTime, AnswersTurn}
use Rattle.codec_payload_datagram_runs.specs.declared.run.DatagramStep.{DatagramStep}
use Rattle.codec_payload_datagram_runs.specs.declared.run.DatagramStep.TheVariants as steps
use Rattle.codec_payload_metadata.specs.Release.{AreValues, Release}
use Rattle.codec_payload_metadata.specs.declared.meta.RtpMeta.{RtpMeta}
use Rattle.codec_payload_payloader.specs.Packets.{AreNumbered, Packet}
use Rattle.codec_payload_receiver.specs.Sessions.{Session as Receiver}
use Rattle.codec_payload_rtp.specs.ExtensionWriting.{FitsValues, ids_fit, values_told}
use Rattle.codec_payload_session.specs.Ports.{Session, new_session}
use Rattle.codec_payload_session_formats.specs.declared.formats.Format.{Format}
use Rattle.codec_payload_session_formats.specs.declared.formats.SessionSettings.{SessionSettings}
use Rattle.codec_payload_session_stream.specs.Units.{Event}
use Rattle.codec_payload_session_stream.specs.declared.events.Event.TheVariants as events
use Rattle.codec_payload_session_stream.specs.declared.stream.Ending.{Ending}
use Rattle.codec_payload_session_stream.specs.declared.stream.StreamState.{StreamState}
use Rattle.codec_payload_session_runs.specs.Lives.{EndedAlone, IsAlone, ReceiverCall, ending_poll, events_of, shown_of}
use Rattle.codec_payload_session_runs.specs.SessionRuns.{Call, Runs}
use Rattle.codec_payload_session_units.specs.OneSender.{IsOneSenders, answers_by, effective, sends_of, steps_by}

-- ---- the units of events

-- a unit, or memory that ran out for it
abbrev pub unit_told : Result Release AllocError → Answer
unit_told (Ok unit) = Some (Ok unit)
unit_told (Err e) = Some (Err faults.OutOfMemory)

-- what these events of a stream say of its units: a unit, also one that is too large, or the fault of a refused frame
abbrev pub units_told : List Event → List Answer
units_told [] = []
units_told (events.Begun s p ∷ es) = units_told es
units_told (events.Unit s p time decodable keyframe unit ∷ es) = unit_told unit ∷ units_told es
units_told (events.TooLarge s p unit ∷ es) = Some (Ok unit) ∷ units_told es
units_told (events.Refused s p fault ∷ es) = Some (Err fault) ∷ units_told es
units_told (events.Feedback s p packet ∷ es) = units_told es
units_told (events.Telephone s p time marker payload ∷ es) = units_told es
units_told (events.Report packet ∷ es) = units_told es
units_told (events.TransportFeedback packet ∷ es) = units_told es
units_told (events.Ended s p why ∷ es) = units_told es

-- the answers that are a unit or a fault
abbrev pub answered : List Answer → List Answer
answered [] = []
answered (None ∷ answers) = answered answers
answered (Some told ∷ answers) = Some told ∷ answered answers

-- ---- pop by pop

-- a pop with some wait, which is none after the end of the stream: the wait limits may have changed
abbrev pub AnswersSomeTurn : Bool → Turn → Type 0
AnswersSomeTurn at_end turn = (wait : Option ℕ) × (at_end ≡ true → wait ≡ Some 0) × AnswersTurn wait turn.stretch.now turn.passed turn.answer turn.after

-- the steps of a receiver, with the stretch so far: each delivery pushes the packet of its datagram, each pop ends a turn, and the steps
-- after the last pop are the stretch at the end. `known` is what is known of the metadata of a packet
abbrev pub IsLogOfStream : (ℕ → Packet → RtpMeta → Type 0) → List Packet → Bool → List DatagramStep → Stretch → List Turn → Stretch → Type 0
IsLogOfStream known packets at_end [] w [] end = end ≡ w
IsLogOfStream known packets at_end [] w (turn ∷ turns) end = ⊥
IsLogOfStream known packets at_end (steps.Send i ∷ later) w turns end = IsLogOfStream known packets at_end later w turns end
IsLogOfStream known packets at_end (steps.Deliver k now ∷ later) w turns end =
    (q : Packet) × (meta : RtpMeta) × (slice_get packets k ≡ Some q) × known k q meta × (meta.received ≡ now)
    × IsLogOfStream known packets at_end later (with_pushes w (arrived w.now.depacketizer meta q.payload ∷ [])) turns end
IsLogOfStream known packets at_end (steps.Pop now ∷ later) w [] end = ⊥
IsLogOfStream known packets at_end (steps.Pop now ∷ later) w (turn ∷ turns) end =
    (turn.stretch ≡ w) × AnswersSomeTurn at_end turn × IsLogOfStream known packets at_end later (begun turn.after) turns end
IsLogOfStream known packets at_end (steps.Finish ∷ later) w turns end = IsLogOfStream known packets true later w turns end

-- the receiver of a stream described pop by pop, from the beginning of the stream to the end of the run: `own` has all calls that it got,
-- also pops without a unit
pub record StreamLog (known : ℕ → Packet → RtpMeta → Type 0) (packets : List Packet) (own : List ReceiverCall) (ks : List ℕ) (r t : Receiver) : Type 0 where
  pub turns : List Turn
  pub end : Stretch
  pub is_log : IsLogOfStream known packets r.packets.ended (steps_by (effective own) ks) (begun r.packets.buffer) turns end
  pub answers : map (λ (turn : Turn). turn.answer) turns ≡ answers_by own
  pub left : end.now ≡ t.packets.buffer

-- ---- the theorem

-- what is known of the metadata of a packet of these units, by its index: its datagram was given to the stream at the time of arrival,
-- and has its number, time, marker and extension values
abbrev pub IsGivenOf : {settings : SessionSettings} {ssrc : ℕ} {f : Format} {gave : List ReceiverCall} (o : IsOneSenders settings ssrc f gave) → List SentUnit → ℕ → Packet → RtpMeta → Type 0
IsGivenOf {settings = settings} {gave = gave} o units = IsDelivery settings.extension_ids o.sender.stream (packets_of units) (steps_by gave o.indices)

-- The sent datagrams read as the packets of the canonical units of the samples. The events have the units in order, each at most once and
-- complete, from packets that were given to the stream before the event. No frame is refused. A complete unit of video has the extension
-- values of its sample, if sender and session have the same ids
pub record ReleasesUnits {settings : SessionSettings} {ssrc : ℕ} {f : Format} {gave : List ReceiverCall} (o : IsOneSenders settings ssrc f gave)
    (told : List Answer) : Type 0 where
  pub units : List SentUnit
  pub canonical : map (λ (u : SentUnit). u.parts) units ≡ units_of_run o.sender.packetizer o.samples (sending_steps o.sender.mtu (sends_of o.samples))
  pub datagrams : AreDatagrams o.sender.stream (packets_of units) o.datagrams
  pub ends : AllEndWithTail (payloads_by o.sender.packetizer) units
  pub in_order : InOrder (IsGivenOf o units) (may_split o.sender.packetizer) units 0 told
  pub before_pops : AreDeliveredBefore [] (steps_by gave o.indices) told
  pub extension_values : is_video o.sender.packetizer ≡ true → settings.extension_ids ≡ o.sender.stream.ids → ids_fit o.sender.stream.ids ≡ true
      → (place : ℕ) (r : Release) → IsWholeAt (IsGivenOf o units) (may_split o.sender.packetizer) units place r
      → (values : ExtensionValues) × (slice_get (values_of_run o.sender.packetizer o.samples (sending_steps o.sender.mtu (sends_of o.samples))) place ≡ Some values)
      × (FitsValues values → AreValues r.metas (values_told o.sender.stream.ids values))

-- the same for each log of the receiver
abbrev pub OfEachLog : {settings : SessionSettings} {ssrc : ℕ} {f : Format} {gave : List ReceiverCall} (o : IsOneSenders settings ssrc f gave) → List SentUnit → List ReceiverCall → Receiver → Receiver → (List Turn → Stretch → Type 0) → Type 0
OfEachLog o units own r t P = (log : StreamLog (IsGivenOf o units) (packets_of units) own o.indices r t) → P log.turns log.end

-- the guarantees, pop by pop
pub record KeepsPromises {settings : SessionSettings} {ssrc : ℕ} {f : Format} {gave : List ReceiverCall} (o : IsOneSenders settings ssrc f gave)
    (told : List Answer) (own : List ReceiverCall) (r t : Receiver) : Type 0 where
  -- The units of the samples, and which of them the events have.
  pub released : ReleasesUnits o told
  -- The packets of the units have consecutive numbers from this one on, as the receiver reports them.
  pub first : ℕ
  pub numbered : AreNumbered first (packets_of released.units)
  -- Each unit that a pop returned is in an event, and each event has what a pop returned, in order.
  pub each_told : answered (answers_by own) ≡ told
  -- The receiver has a log.
  pub logged : StreamLog (IsGivenOf o released.units) (packets_of released.units) own o.indices r t
  -- Of the packets that came between two pops only the set counts: the buffer holds those with the highest numbers, up to its limit.
  pub order : OfEachLog o released.units own r t (AreStretches (IsGivenOf o released.units) first (packets_of released.units))
  -- A unit is reported as contiguous exactly if its first number follows the last number of the previous release, or it is the first and
  -- no packet was evicted before it, unless picture id and TL0PICIDX are both sent.
  pub contiguous : next_id o.sender.packetizer ≡ None
      → OfEachLog o released.units own r t (λ turns end. AllFollowAsSaid first (length (packets_of released.units)) None false turns)
  -- A unit that is held whole before a pop is released whole by that or a later one, or held whole in the end, unless a packet of it was
  -- evicted, or a pop skipped it.
  pub no_silent_loss : OfEachLog o released.units own r t (NoneIsLost (IsGivenOf o released.units) first (may_split o.sender.packetizer) released.units)
  -- The same for a unit whose packets all come before a pop, while the cutoff is below it: no pop released or skipped a later unit, and no
  -- later packet was evicted.
  pub in_time : OfEachLog o released.units own r t (AllInTime (IsGivenOf o released.units) first (may_split o.sender.packetizer) released.units)
  -- If picture id and TL0PICIDX are not both sent, no pop skips a unit.
  pub none_skipped : next_id o.sender.packetizer ≡ None → OfEachLog o released.units own r t (λ turns end. NonePassedOver turns)
  -- If both are sent, a unit is skipped only after 16,384 units in a row that no pop returned.
  pub skipped_past_gap : OfEachLog o released.units own r t (λ turns end. NonePassedOver turns ⊎ IsGap first released.units turns)

-- a stream of a session: it is a receiver alone, and if the datagrams that the run gave it since it began are one sender's, the events have
-- its units
abbrev pub UnitsAreSenders : (settings : SessionSettings) (calls : List Call) (ssrc : ℕ) (f : Format) (announced : Bool) (r : Receiver) → IsAlone settings calls ssrc f announced r → Type 0
UnitsAreSenders settings calls ssrc f announced r alone =
    (o : IsOneSenders settings ssrc f (shown_of ssrc f.payload_type alone.during))
    → KeepsPromises o (units_told (events_of ssrc f.payload_type alone.during)) alone.own alone.fresh.receiver r

-- at each moment of a run of a new session, for any account of a stream as a receiver alone
abbrev pub StreamsReleaseUnits : Type 0
StreamsReleaseUnits =
    (settings : SessionSettings) (calls : List Call) (s : Session) → Runs calls (new_session settings) s → (ssrc : ℕ) (f : Format) (announced : Bool) (r : Receiver)
    → (alone : IsAlone settings calls ssrc f announced r) → UnitsAreSenders settings calls ssrc f announced r alone

-- each of these streams was a receiver alone, whose units are its sender's
abbrev pub EachReleasesUnits : SessionSettings → List Call → List StreamState → Type 0
EachReleasesUnits settings calls [] = Unit {0}
EachReleasesUnits settings calls (s ∷ ss) =
    ((alone : IsAlone settings calls s.ssrc s.format s.announced s.receiver) × UnitsAreSenders settings calls s.ssrc s.format s.announced s.receiver alone) × EachReleasesUnits settings calls ss

-- the streams that a session has at a moment of a run
abbrev pub AllStreamsReleaseUnits : Type 0
AllStreamsReleaseUnits = (settings : SessionSettings) (calls : List Call) (s : Session) → Runs calls (new_session settings) s → EachReleasesUnits settings calls s.port.streams

-- a stream that ended with an event: up to the poll of that event, which had no unit
abbrev pub EndedStreamsReleaseUnits : Type 0
EndedStreamsReleaseUnits =
    (settings : SessionSettings) (before after : List Call) (now : Ticks) (ssrc payload_type : ℕ) (why : Ending) (s : Session)
    → Runs (before ++ ending_poll now ssrc payload_type why ∷ after) (new_session settings) s
    → (ended : EndedAlone settings before now ssrc payload_type why) × UnitsAreSenders settings before ssrc ended.format true ended.receiver ended.alone
