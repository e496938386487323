-- A run in RED, pop by pop: the buffer of the receiver before each pop, and the units that it held. A packet comes with its own
-- datagram, or as a block of a later one (RFC 2198).
use Rattle.std.specs.Prelude.{◌≡◌, ℕ, ◌+◌, ◌*◌, ◌^◌, ◌≤◌, max, Bool, true, false, List, [], ◌∷◌, Some, None, Contains, length, map, slice_get}
use Rattle.codec_payload_base.specs.declared.wire.Ticks.{Ticks}
use Rattle.codec_payload_buffer.specs.Held.{Held, has_number}
use Rattle.codec_payload_buffer.specs.Steps.{arrived}
use Rattle.codec_payload_codec.specs.Depacketizers.{DepacketizerState}
use Rattle.codec_payload_codec.specs.Packetizers.{may_split}
use Rattle.codec_payload_jitter.specs.Receiving.{Receiving}
use Rattle.codec_payload_buffer_runs.specs.Log.{Stretch, Turn, begun, with_pushes}
use Rattle.codec_payload_buffer_runs.specs.RunOrder.{AllFollowAsSaid, AreStretches}
use Rattle.codec_payload_buffer_runs.specs.RunUnits.{NoneIsLost, NonePassedOver}
use Rattle.codec_payload_buffer_runs.specs.SentStream.{SentUnit, packets_of}
use Rattle.codec_payload_payloader.specs.Packets.{AreNumbered, Packet}
use Rattle.codec_payload_payloader.specs.Sending.{Sample}
use Rattle.codec_payload_sending.specs.Senders.{Sending}
use Rattle.codec_payload_sending_red.specs.Writers.{Writer}
use Rattle.codec_payload_receiver.specs.Sessions.{Session}
use Rattle.codec_payload_datagram_runs.specs.RedReleases.{Carries, IsInRedWithinWindows, IsKnownInRed, ReleasesUnitsInRed}
use Rattle.codec_payload_datagram_runs.specs.RedRuns.{RedRuns, RedWire, begins_in_red}
use Rattle.codec_payload_datagram_runs.specs.Releases.{ComeWithin, delivered, received_steps}
use Rattle.codec_payload_datagram_runs.specs.WireLogs.{AnswersTurn, wait_of}
use Rattle.codec_payload_datagram_runs.specs.declared.run.DatagramStep.{DatagramStep}
use Rattle.codec_payload_datagram_runs.specs.declared.run.DatagramStep.TheVariants as steps

-- What a delivery pushes

-- The written datagram with the index `carrier` brings the packet with the index k: it has the packet, and the packet is at most
-- `backward` numbers behind the highest one whose datagram was delivered so far
abbrev pub IsBroughtBy : Writer → List (List ℕ) → (backward highest carrier k : ℕ) → Type 0
IsBroughtBy w sent backward highest carrier k = Carries w sent carrier k × (highest ≤ k + backward)

-- the push of a packet that this datagram brings
pub record IsPushBy (samples : List Sample) (all_steps : List DatagramStep) (s t : RedWire) (packets : List Packet) (highest carrier : ℕ) (now : Ticks) (d : DepacketizerState) (p : Held) : Type 0 where
  pub index : ℕ
  pub packet : Packet
  pub there : slice_get packets index ≡ Some packet
  pub brought : IsBroughtBy s.writer t.wire.datagrams s.wire.session.packets.numbering.backward highest carrier index
  pub known : IsKnownInRed samples all_steps s t index packet p.meta
  pub by : known.carrier ≡ carrier
  pub received : p.meta.received ≡ now
  pub held : p ≡ arrived d p.meta packet.payload

-- a delivery pushes exactly the packets that its datagram brings; `d` is the depacketizer of the buffer
pub record PushesAll (samples : List Sample) (all_steps : List DatagramStep) (s t : RedWire) (packets : List Packet) (highest carrier : ℕ) (now : Ticks) (d : DepacketizerState) (pushes : List Held) : Type 0 where
  pub each : (p : Held) → Contains pushes p → IsPushBy samples all_steps s t packets highest carrier now d p
  pub all : (k : ℕ) (q : Packet) → slice_get packets k ≡ Some q → IsBroughtBy s.writer t.wire.datagrams s.wire.session.packets.numbering.backward highest carrier k
      → has_number q.number pushes ≡ true

-- The log

-- the steps of a receiver with these limits, with the stretch so far, as in a run without RED (`IsLogOf`); `Pushes` says what a
-- delivery pushes, and `highest` is the highest index of a datagram delivered so far
abbrev pub IsRedLogOf : ((highest carrier : ℕ) → Ticks → DepacketizerState → List Held → Type 0) → Receiving → Bool → (highest : ℕ) → List DatagramStep → Stretch → List Turn → Stretch → Type 0
IsRedLogOf Pushes r at_end highest [] w [] end = end ≡ w
IsRedLogOf Pushes r at_end highest [] w (turn ∷ turns) end = ⊥
IsRedLogOf Pushes r at_end highest (steps.Send i ∷ later) w turns end = IsRedLogOf Pushes r at_end highest later w turns end
IsRedLogOf Pushes r at_end highest (steps.Deliver k now ∷ later) w turns end =
    (pushes : List Held) × Pushes (max highest k) k now w.now.depacketizer pushes × IsRedLogOf Pushes r at_end (max highest k) later (with_pushes w pushes) turns end
IsRedLogOf Pushes r at_end highest (steps.Pop now ∷ later) w [] end = ⊥
IsRedLogOf Pushes r at_end highest (steps.Pop now ∷ later) w (turn ∷ turns) end =
    (turn.stretch ≡ w) × AnswersTurn (wait_of r at_end w.now now.0) w.now turn.passed turn.answer turn.after × IsRedLogOf Pushes r at_end highest later (begun turn.after) turns end
IsRedLogOf Pushes r at_end highest (steps.Finish ∷ later) w turns end = IsRedLogOf Pushes r true highest later w turns end

-- a run described pop by pop, from the buffer before the run to the buffer after it; `end` is the stretch after the last pop
pub record RedWireLog (samples : List Sample) (all_steps : List DatagramStep) (s t : RedWire) (units : List SentUnit) : Type 0 where
  pub turns : List Turn
  pub end : Stretch
  pub is_log : IsRedLogOf (PushesAll samples all_steps s t (packets_of units)) s.wire.session.packets s.wire.session.packets.ended 0 (received_steps samples 0 all_steps t.wire.sends)
      (begun s.wire.session.packets.buffer) turns end
  pub answers : map (λ (turn : Turn). turn.answer) turns ≡ t.wire.pops
  pub left : end.now ≡ t.wire.session.packets.buffer

-- Premise

-- The receiver distinguishes packets by their RTP times, and remembers the latest 64. So the packets of 65 deliveries in a row have to be
-- within one turn of the RTP clock, 2^32 ticks: the packets are `step` ticks apart, and each delivered datagram is less than `jump`
-- above the highest one before it, and at most `backward` below
pub record StaysInTurn (step backward : ℕ) (ks : List ℕ) : Type 0 where
  pub jump : ℕ
  pub near : ComeWithin jump backward ks
  pub in_turn : (64 * jump + backward + 9) * step ≤ 2 ^ 32

-- Guarantees

-- this applies to each log of the run
abbrev pub OfEachRedLog : List Sample → List DatagramStep → RedWire → RedWire → List SentUnit → (List Turn → Stretch → Type 0) → Type 0
OfEachRedLog samples all_steps s t units P = (log : RedWireLog samples all_steps s t units) → P log.turns log.end

-- the guarantees of a run in RED, pop by pop
pub record KeepsRedPromises (samples : List Sample) (all_steps : List DatagramStep) (s t : RedWire) : Type 0 where
  -- The units of the samples, and which of them the pops return.
  pub released : ReleasesUnitsInRed samples all_steps s t
  -- The packets of the units have consecutive numbers from this one on, as the receiver reports them.
  pub first : ℕ
  pub numbered : AreNumbered first (packets_of released.units)
  -- The run has a log: each delivery pushes exactly the packets that its datagram brings.
  pub logged : RedWireLog samples all_steps s t released.units
  -- Of the packets brought between two pops only the set counts: the buffer holds those with the highest numbers, up to its limit,
  -- among the packets that it held and those brought above the cutoff since.
  pub order : OfEachRedLog samples all_steps s t released.units (AreStretches (IsKnownInRed samples all_steps s t) first (packets_of released.units))
  -- A unit is reported as contiguous exactly if its first number follows the last number of the previous release, or it is the first
  -- and no packet was evicted before it.
  pub contiguous : OfEachRedLog samples all_steps s t released.units (λ turns end. AllFollowAsSaid first (length (packets_of released.units)) None false turns)
  -- A unit that is held whole before a pop is released whole by that or a later one, or held whole in the end, unless a packet of it
  -- was evicted.
  pub no_silent_loss :
      OfEachRedLog samples all_steps s t released.units (NoneIsLost (IsKnownInRed samples all_steps s t) first (may_split s.wire.sending.packetizer) released.units)
  -- No pop skips a unit.
  pub none_skipped : OfEachRedLog samples all_steps s t released.units (λ turns end. NonePassedOver turns)

-- this applies to a run that meets the premises
abbrev pub KeepsPromisesInRed : List Sample → List DatagramStep → RedWire → RedWire → Type 0
KeepsPromisesInRed samples all_steps s t =
    (within : IsInRedWithinWindows samples all_steps s t) → StaysInTurn within.red.step within.plain.settings.backward (delivered (received_steps samples 0 all_steps t.wire.sends))
    → KeepsRedPromises samples all_steps s t

-- for every run in RED
abbrev pub PromisesInRed : Type 0
PromisesInRed =
    (samples : List Sample) (all_steps : List DatagramStep) (sender : Sending) (writer : Writer) (receiver : Session) (t : RedWire)
    → RedRuns samples all_steps (begins_in_red sender writer receiver) t → KeepsPromisesInRed samples all_steps (begins_in_red sender writer receiver) t
