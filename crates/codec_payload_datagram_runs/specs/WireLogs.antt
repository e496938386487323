-- A run over datagrams, pop by pop: the buffer of the receiver before each pop, and the units that it held.
use Rattle.std.specs.Prelude.{◌≡◌, ◌≢◌, ◌⊎◌, ℕ, ◌+◌, Bool, true, false, List, [], ◌∷◌, Option, Some, None, Err, length, map, slice_get}
use Rattle.codec_payload_base.specs.declared.error.PacketError.TheVariants as faults
use Rattle.codec_payload_buffer.specs.Steps.{PopsOver, State, arrived}
use Rattle.codec_payload_buffer.specs.declared.buffer.frames.CompleteFrame.{CompleteFrame}
use Rattle.codec_payload_metadata.specs.declared.meta.RtpMeta.{RtpMeta}
use Rattle.codec_payload_codec.specs.Packetizers.{may_split}
use Rattle.codec_payload_jitter.specs.Receiving.{Receiving, waiting_at}
use Rattle.codec_payload_buffer_runs.specs.Headline.{packets_before}
use Rattle.codec_payload_buffer_runs.specs.Log.{Stretch, Turn, begun, with_pushes}
use Rattle.codec_payload_buffer_runs.specs.ReportedIds.{next_id}
use Rattle.codec_payload_buffer_runs.specs.RunOrder.{AllFollowAsSaid, AreStretches}
use Rattle.codec_payload_buffer_runs.specs.RunUnits.{Fate, IsGap, NoneIsLost, NonePassedOver}
use Rattle.codec_payload_buffer_runs.specs.Schedule.{Answer}
use Rattle.codec_payload_buffer_runs.specs.SentStream.{SentUnit, packets_of}
use Rattle.codec_payload_payloader.specs.Packets.{AreNumbered, Packet}
use Rattle.codec_payload_payloader.specs.Sending.{Sample}
use Rattle.codec_payload_sending.specs.Senders.{Sending}
use Rattle.codec_payload_receiver.specs.Sessions.{Session}
use Rattle.codec_payload_datagram_runs.specs.Deliveries.{ComesInTime, PopsAreBrought}
use Rattle.codec_payload_datagram_runs.specs.Releases.{IsKnownOf, IsWithinWindows, ReleasesUnits, received_steps}
use Rattle.codec_payload_datagram_runs.specs.WireRuns.{Runs, Wire, begins}
use Rattle.codec_payload_datagram_runs.specs.declared.run.DatagramStep.{DatagramStep}
use Rattle.codec_payload_datagram_runs.specs.declared.run.DatagramStep.TheVariants as steps

-- a pop of the receiver at its buffer: `hold_back` complete frames may wait behind a gap, and these frames are skipped. While the
-- stream starts, the buffer is not asked
abbrev pub AnswersTurn : Option ℕ → State → List CompleteFrame → Answer → State → Type 0
AnswersTurn None s passed answer t = (passed ≡ []) × (answer ≡ None) × (t ≡ s)
AnswersTurn (Some hold_back) s passed answer t = (answer ≢ Some (Err faults.OutOfMemory)) × PopsOver (record s { hold_back = hold_back }) passed answer t

-- how many complete frames may wait behind a gap at a moment, by the limits of the receiver; its buffer is `buffer`, and `at_end`
-- says whether the stream has ended
abbrev pub wait_of : Receiving → Bool → State → ℕ → Option ℕ
wait_of r at_end buffer now = waiting_at (record r { buffer = buffer; ended = at_end }) now

-- the steps of a receiver with these limits, with the stretch so far: each delivery pushes the packet of its datagram, each pop ends
-- a turn, and the steps after the last pop are the stretch at the end. `known` is what is known of the metadata of a packet
abbrev pub IsLogOf : (ℕ → Packet → RtpMeta → Type 0) → List Packet → Receiving → Bool → List DatagramStep → Stretch → List Turn → Stretch → Type 0
IsLogOf known packets r at_end [] w [] end = end ≡ w
IsLogOf known packets r at_end [] w (turn ∷ turns) end = ⊥
IsLogOf known packets r at_end (steps.Send i ∷ later) w turns end = IsLogOf known packets r at_end later w turns end
IsLogOf known packets r at_end (steps.Deliver k now ∷ later) w turns end =
    (q : Packet) × (meta : RtpMeta) × (slice_get packets k ≡ Some q) × known k q meta × (meta.received ≡ now)
    × IsLogOf known packets r at_end later (with_pushes w (arrived w.now.depacketizer meta q.payload ∷ [])) turns end
IsLogOf known packets r at_end (steps.Pop now ∷ later) w [] end = ⊥
IsLogOf known packets r at_end (steps.Pop now ∷ later) w (turn ∷ turns) end =
    (turn.stretch ≡ w) × AnswersTurn (wait_of r at_end w.now now.0) w.now turn.passed turn.answer turn.after × IsLogOf known packets r at_end later (begun turn.after) turns end
IsLogOf known packets r at_end (steps.Finish ∷ later) w turns end = IsLogOf known packets r true later w turns end

-- a run described pop by pop, from the buffer before the run to the buffer after it; `end` is the stretch after the last pop
pub record WireLog (samples : List Sample) (all_steps : List DatagramStep) (s t : Wire) (units : List SentUnit) : Type 0 where
  pub turns : List Turn
  pub end : Stretch
  pub is_log : IsLogOf (IsKnownOf samples all_steps s t units) (packets_of units) s.session.packets s.session.packets.ended (received_steps samples 0 all_steps t.sends)
      (begun s.session.packets.buffer) turns end
  pub answers : map (λ (turn : Turn). turn.answer) turns ≡ t.pops
  pub left : end.now ≡ t.session.packets.buffer

-- Guarantees

-- this applies to each log of the run
abbrev pub OfEachLog : List Sample → List DatagramStep → Wire → Wire → List SentUnit → (List Turn → Stretch → Type 0) → Type 0
OfEachLog samples all_steps s t units P = (log : WireLog samples all_steps s t units) → P log.turns log.end

-- each unit whose packets come in time is released or skipped, or held whole in the end, or a packet of it was evicted
abbrev pub AllInTime : (ℕ → Packet → RtpMeta → Type 0) → ℕ → Bool → List SentUnit → List Turn → Stretch → Type 0
AllInTime known first splits units turns end =
    (place : ℕ) (u : SentUnit) → slice_get units place ≡ Some u → ComesInTime (first + packets_before place units) (first + packets_before (place + 1) units) [] turns
    → Fate known first splits units place turns turns end

-- the guarantees of a run, pop by pop
pub record KeepsPromises (samples : List Sample) (all_steps : List DatagramStep) (s t : Wire) : Type 0 where
  -- The units of the samples, and which of them the pops return.
  pub released : ReleasesUnits samples all_steps s t
  -- The packets of the units have consecutive numbers from this one on, as the receiver reports them.
  pub first : ℕ
  pub numbered : AreNumbered first (packets_of released.units)
  -- The run has a log.
  pub logged : WireLog samples all_steps s t released.units
  -- Of the packets delivered between two pops only the set counts: the buffer holds those with the highest numbers, up to its limit,
  -- among the packets that it held and those delivered above the cutoff since.
  pub order : OfEachLog samples all_steps s t released.units (AreStretches (IsKnownOf samples all_steps s t released.units) first (packets_of released.units))
  -- If picture id and TL0PICIDX are not both sent, a unit is reported as contiguous exactly if its first number follows the last
  -- number of the previous release, or it is the first and no packet was evicted before it.
  pub contiguous : next_id s.sending.packetizer ≡ None
      → OfEachLog samples all_steps s t released.units (λ turns end. AllFollowAsSaid first (length (packets_of released.units)) None false turns)
  -- A unit that is held whole before a pop is released whole by that or a later one, or held whole in the end, unless a packet of it
  -- was evicted, or a pop skipped it.
  pub no_silent_loss : OfEachLog samples all_steps s t released.units (NoneIsLost (IsKnownOf samples all_steps s t released.units) first (may_split s.sending.packetizer) released.units)
  -- The same for a unit whose packets all come before a pop, while the cutoff is below it: no pop released or skipped a later unit, and
  -- no later packet was evicted.
  pub in_time : OfEachLog samples all_steps s t released.units (AllInTime (IsKnownOf samples all_steps s t released.units) first (may_split s.sending.packetizer) released.units)
  -- Each packet of a popped unit was delivered before that pop, with its number and its time of arrival.
  pub before_pops : PopsAreBrought first [] (received_steps samples 0 all_steps t.sends) t.pops
  -- If picture id and TL0PICIDX are not both sent, no pop skips a unit.
  pub none_skipped : next_id s.sending.packetizer ≡ None → OfEachLog samples all_steps s t released.units (λ turns end. NonePassedOver turns)
  -- If both are sent, a unit is skipped only after 16,384 units in a row that no pop returned.
  pub skipped_past_gap : OfEachLog samples all_steps s t released.units (λ turns end. NonePassedOver turns ⊎ IsGap first released.units turns)

-- this applies to a run whose samples can be read, and whose datagrams arrive within the windows
abbrev pub KeepsPromisesWithinWindows : List Sample → List DatagramStep → Wire → Wire → Type 0
KeepsPromisesWithinWindows samples all_steps s t = IsWithinWindows samples all_steps s.sending s.session t.sends → KeepsPromises samples all_steps s t

-- for every run over datagrams
abbrev pub PromisesOverDatagrams : Type 0
PromisesOverDatagrams =
    (samples : List Sample) (all_steps : List DatagramStep) (sender : Sending) (receiver : Session) (t : Wire)
    → Runs samples all_steps (begins sender receiver) t → KeepsPromisesWithinWindows samples all_steps (begins sender receiver) t
