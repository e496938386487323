-- A stream of a session in RED (RFC 2198), pop by pop: what each datagram brings, and that no unit is lost silently.
use Rattle.std.specs.Prelude.{◌≡◌, ℕ, max, Bool, true, false, List, [], ◌∷◌, Some, None, Contains, length, map, slice_get}
use Rattle.codec_payload_base.specs.declared.wire.Ticks.{Ticks}
use Rattle.codec_payload_buffer.specs.Held.{Held, has_number}
use Rattle.codec_payload_buffer.specs.Steps.{arrived}
use Rattle.codec_payload_codec.specs.Depacketizers.{DepacketizerState}
use Rattle.codec_payload_codec.specs.Packetizers.{may_split}
use Rattle.codec_payload_buffer_runs.specs.Log.{Stretch, Turn, begun, with_pushes}
use Rattle.codec_payload_buffer_runs.specs.RunOrder.{AllFollowAsSaid, AreStretches}
use Rattle.codec_payload_buffer_runs.specs.RunUnits.{NoneIsLost, NonePassedOver}
use Rattle.codec_payload_buffer_runs.specs.Schedule.{Answer}
use Rattle.codec_payload_buffer_runs.specs.SentStream.{SentUnit, packets_of}
use Rattle.codec_payload_datagram_runs.specs.RedLogs.{IsBroughtBy, StaysInTurn}
use Rattle.codec_payload_datagram_runs.specs.declared.run.DatagramStep.{DatagramStep}
use Rattle.codec_payload_datagram_runs.specs.declared.run.DatagramStep.TheVariants as steps
use Rattle.codec_payload_payloader.specs.Packets.{AreNumbered, Packet}
use Rattle.codec_payload_receiver.specs.Sessions.{Session as Receiver}
use Rattle.codec_payload_session.specs.Ports.{Session, new_session}
use Rattle.codec_payload_session_formats.specs.Formats.{backward_for, is_video}
use Rattle.codec_payload_session_formats.specs.declared.formats.Format.{Format}
use Rattle.codec_payload_session_formats.specs.declared.formats.SessionSettings.{SessionSettings}
use Rattle.codec_payload_session_runs.specs.Lives.{IsAlone, ReceiverCall, events_of, shown_of}
use Rattle.codec_payload_session_runs.specs.SessionRuns.{Call, Runs}
use Rattle.codec_payload_session_units.specs.OneRedSender.{IsGivenInRed, IsOneRedSenders, ReleasesUnitsInRed}
use Rattle.codec_payload_session_units.specs.OneSender.{answers_by, effective, steps_by}
use Rattle.codec_payload_session_units.specs.StreamUnits.{AnswersSomeTurn, answered, units_told}

-- how far below the highest number a packet of the stream may be
abbrev pub backward_of : Format → ℕ
backward_of f = backward_for (is_video f.spec.codec)

-- the push of a packet that this datagram brings
pub record IsPushOf {settings : SessionSettings} {ssrc : ℕ} {f : Format} {gave : List ReceiverCall} (o : IsOneRedSenders settings ssrc f gave) (packets : List Packet) (highest carrier : ℕ)
    (now : Ticks) (d : DepacketizerState) (p : Held) : Type 0 where
  pub index : ℕ
  pub packet : Packet
  pub there : slice_get packets index ≡ Some packet
  pub brought : IsBroughtBy o.writer o.datagrams (backward_of f) highest carrier index
  pub known : IsGivenInRed o index packet p.meta
  pub by : known.carrier ≡ carrier
  pub received : p.meta.received ≡ now
  pub held : p ≡ arrived d p.meta packet.payload

-- a datagram pushes exactly the packets that it brings: its own, and those of its blocks that are within the window; `d` is the
-- depacketizer of the buffer
pub record PushesWhole {settings : SessionSettings} {ssrc : ℕ} {f : Format} {gave : List ReceiverCall} (o : IsOneRedSenders settings ssrc f gave) (packets : List Packet) (highest carrier : ℕ)
    (now : Ticks) (d : DepacketizerState) (pushes : List Held) : Type 0 where
  pub each : (p : Held) → Contains pushes p → IsPushOf o packets highest carrier now d p
  pub all : (k : ℕ) (q : Packet) → slice_get packets k ≡ Some q → IsBroughtBy o.writer o.datagrams (backward_of f) highest carrier k → has_number q.number pushes ≡ true

-- the steps of a receiver, with the stretch so far, as in a stream without RED (`IsLogOfStream`); `Pushes` says what a delivery pushes, and
-- `highest` is the highest index of a datagram so far
abbrev pub IsLogInRed : ((highest carrier : ℕ) → Ticks → DepacketizerState → List Held → Type 0) → Bool → (highest : ℕ) → List DatagramStep → Stretch → List Turn → Stretch → Type 0
IsLogInRed Pushes at_end highest [] w [] end = end ≡ w
IsLogInRed Pushes at_end highest [] w (turn ∷ turns) end = ⊥
IsLogInRed Pushes at_end highest (steps.Send i ∷ later) w turns end = IsLogInRed Pushes at_end highest later w turns end
IsLogInRed Pushes at_end highest (steps.Deliver k now ∷ later) w turns end =
    (pushes : List Held) × Pushes (max highest k) k now w.now.depacketizer pushes × IsLogInRed Pushes at_end (max highest k) later (with_pushes w pushes) turns end
IsLogInRed Pushes at_end highest (steps.Pop now ∷ later) w [] end = ⊥
IsLogInRed Pushes at_end highest (steps.Pop now ∷ later) w (turn ∷ turns) end =
    (turn.stretch ≡ w) × AnswersSomeTurn at_end turn × IsLogInRed Pushes at_end highest later (begun turn.after) turns end
IsLogInRed Pushes at_end highest (steps.Finish ∷ later) w turns end = IsLogInRed Pushes true highest later w turns end

-- the receiver of a stream described pop by pop, from the beginning of the stream to the end of the run
pub record RedStreamLog {settings : SessionSettings} {ssrc : ℕ} {f : Format} {gave : List ReceiverCall} (o : IsOneRedSenders settings ssrc f gave) (packets : List Packet)
    (own : List ReceiverCall) (r t : Receiver) : Type 0 where
  pub turns : List Turn
  pub end : Stretch
  pub is_log : IsLogInRed (PushesWhole o packets) r.packets.ended 0 (steps_by (effective own) o.indices) (begun r.packets.buffer) turns end
  pub answers : map (λ (turn : Turn). turn.answer) turns ≡ answers_by own
  pub left : end.now ≡ t.packets.buffer

-- the same for each log of the receiver
abbrev pub OfEachRedLog : {settings : SessionSettings} {ssrc : ℕ} {f : Format} {gave : List ReceiverCall} (o : IsOneRedSenders settings ssrc f gave) → List SentUnit → List ReceiverCall → Receiver → Receiver
    → (List Turn → Stretch → Type 0) → Type 0
OfEachRedLog o units own r t P = (log : RedStreamLog o (packets_of units) own r t) → P log.turns log.end

-- the guarantees of a stream in RED, pop by pop
pub record KeepsRedPromises {settings : SessionSettings} {ssrc : ℕ} {f : Format} {gave : List ReceiverCall} (o : IsOneRedSenders settings ssrc f gave)
    (told : List Answer) (own : List ReceiverCall) (r t : Receiver) : Type 0 where
  -- The units of the samples, and which of them the events have.
  pub released : ReleasesUnitsInRed o told
  -- The packets of the units have consecutive numbers from this one on, as the receiver reports them.
  pub first : ℕ
  pub numbered : AreNumbered first (packets_of released.units)
  -- Each unit that a pop returned is in an event, and each event has what a pop returned, in order.
  pub each_told : answered (answers_by own) ≡ told
  -- The receiver has a log: each datagram pushes exactly the packets that it brings.
  pub logged : RedStreamLog o (packets_of released.units) own r t
  -- Of the packets that came between two pops only the set counts: the buffer holds those with the highest numbers, up to its limit.
  pub order : OfEachRedLog o released.units own r t (AreStretches (IsGivenInRed o) first (packets_of released.units))
  -- A unit is reported as contiguous exactly if its first number follows the last number of the previous release, or it is the first and
  -- no packet was evicted before it.
  pub contiguous : OfEachRedLog o released.units own r t (λ turns end. AllFollowAsSaid first (length (packets_of released.units)) None false turns)
  -- A unit that is held whole before a pop is released whole by that or a later one, or held whole in the end, unless a packet of it was
  -- evicted.
  pub no_silent_loss : OfEachRedLog o released.units own r t (NoneIsLost (IsGivenInRed o) first (may_split o.sender.packetizer) released.units)
  -- No pop skips a unit.
  pub none_skipped : OfEachRedLog o released.units own r t (λ turns end. NonePassedOver turns)

-- at each moment of a run of a new session, if the packets of 65 datagrams in a row are within one turn of the RTP clock
abbrev pub RedStreamsKeepPromises : Type 0
RedStreamsKeepPromises =
    (settings : SessionSettings) (calls : List Call) (s : Session) → Runs calls (new_session settings) s → (ssrc : ℕ) (f : Format) (announced : Bool) (r : Receiver)
    → (alone : IsAlone settings calls ssrc f announced r) (o : IsOneRedSenders settings ssrc f (shown_of ssrc f.payload_type alone.during)) → StaysInTurn o.red.step (backward_of f) o.indices
    → KeepsRedPromises o (units_told (events_of ssrc f.payload_type alone.during)) alone.own alone.fresh.receiver r
