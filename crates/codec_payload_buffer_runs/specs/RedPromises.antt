-- The guarantees of a whole run with RED.
use Rattle.std.specs.Prelude.{◌≡◌, ◌⊎◌, ℕ, ◌<◌, ◌≤◌, ◌==◌, false, Option, List, [], Some, None, length, map, slice_get}
use Rattle.std.specs.Borrow.{MutBor}
use Rattle.std.specs.List.{AllByRecursion}
use Rattle.std.proofs.Common.{inl, inr}
use Rattle.codec_payload_base.specs.declared.wire.ToPayload.{ToPayload}
use Rattle.codec_payload_codec.specs.Depacketizers.{DepacketizerState}
use Rattle.codec_payload_buffer.specs.Held.{Held}
use Rattle.codec_payload_buffer.specs.Steps.{arrived}
use Rattle.codec_payload_metadata.specs.declared.meta.RtpMeta.{RtpMeta}
use Rattle.codec_payload_buffer_runs.specs.Exact.{IsPushedFirst, AnswersAll}
use Rattle.codec_payload_buffer_runs.specs.Headline.{AreOfEarlier, InOrder, IsUnused}
use Rattle.codec_payload_buffer_runs.specs.LawfulUnits.{AllLawful}
use Rattle.codec_payload_buffer_runs.specs.Log.{Stretch, Turn, begun, packet_named, IsLogBy}
use Rattle.codec_payload_payloader.specs.Packets.{Packet}
use Rattle.codec_payload_buffer_runs.specs.RedSchedule.{Protection, RedState, RunsInRed, all_remembered, meta_of_block, meta_of_recovered, recovered_in}
use Rattle.codec_payload_buffer_runs.specs.RunCounts.{IsCounted, sent_before}
use Rattle.codec_payload_buffer_runs.specs.RunOrder.{AreStretches, AllFollowAsSaid}
use Rattle.codec_payload_buffer_runs.specs.RunUnits.{NoneIsLost, NonePassedOver, FirstIsWhole, NoneEvicted, IsPatient, AreNext}
use Rattle.codec_payload_codec.specs.Packetizers.{is_video, payloads_by, may_split}
use Rattle.codec_payload_buffer_runs.specs.Schedule.{Answer}
use Rattle.codec_payload_payloader.specs.Sending.{Sample, sample_of}
use Rattle.codec_payload_buffer_runs.specs.SentStream.{AreReadable, SentUnit, packets_of, AllEndWithTail, units_of_run}
use Rattle.codec_payload_buffer_runs.specs.declared.run.RedRun.{RedRun}
use Rattle.codec_payload_buffer_runs.specs.declared.run.Run.{Run}
use Rattle.codec_payload_buffer_runs.specs.declared.run.Sent.{Sent}
use Rattle.codec_payload_buffer_runs.specs.declared.run.Step.{Step}
use Rattle.codec_payload_buffer_runs.specs.declared.run.Step.TheVariants as steps
use Rattle.codec_payload_red.specs.RedLevels.{Sender}
use Rattle.codec_payload_red.specs.RedRecovery.{Receiver, RecoveredPacket}
use Rattle.codec_payload_red.specs.RedRun.{IsRecoverable, IsKeptIn}

-- a run with RED: budget and receiver, the samples, the steps, and the state before; the entries of the sends, the results of the
-- pops, and the state afterwards
pub record RedRan : Type 0 where
  pub with : Protection
  pub samples : List Sample
  pub steps : List Step
  pub before : RedState
  pub sends : List Sent
  pub pops : List Answer
  pub after : RedState

abbrev pub ran_in_red : Protection → List ToPayload → List Step → RedState → Run → RedState → RedRan
ran_in_red with samples steps before run after = record { with = with; samples = map sample_of samples; steps = steps; before = before; sends = run.sends.items; pops = run.pops.items; after = after }

-- the settings of RED for a run, without the sender
abbrev pub protection_of : RedRun → Protection
protection_of red = record { budget = red.budget; receiver = red.receiver.now }

-- How a run leaves the sender that it borrowed. The layout of a value that holds a reference gives the value behind the reference
-- afterwards: for an `Option` the second case is `Some`, and the sender is the first field of a `RedRun`.
abbrev pub LeavesSender : {Rest : Type 0} → Unit {0} ⊎ (((MutBor Sender × Rest) × Unit {0}) ⊎ ⊥) → Sender → Type 0
LeavesSender (inl none) sender = ⊥
LeavesSender (inr (inl red)) sender = sender ≡ red.0.0.now
LeavesSender (inr (inr none)) sender = ⊥

-- the packets that were sent, before they were wrapped in RED
abbrev pub sent_in : RedRan → List Packet
sent_in r = r.after.plain.sink.packets

-- The premises: the premises of a run without RED; the codec is not VP8, VP9 or AV1; and the packets can be recovered: from an
-- unused sender, by a receiver of its type and of the fixed step between their times, with room for each payload.
pub record IsRedFresh (r : RedRan) : Type 0 where
  pub unused : IsUnused r.before.plain
  pub none_in_sink : r.before.images ≡ []
  pub readable : AreReadable r.before.plain.payloading.packetizer r.samples
  pub no_video : is_video r.before.plain.payloading.packetizer ≡ false
  pub recoverable : IsRecoverable r.before.sender r.with.receiver r.with.budget (all_remembered (sent_in r))

-- packet k is packet `carrier`, or is in a kept level of it
abbrev pub IsIn : RedRan → ℕ → ℕ → Type 0
IsIn r k carrier = (k ≡ carrier) ⊎ IsKeptIn r.before.sender r.with.budget (all_remembered (sent_in r)) k carrier

-- the metadata of one push of packet k: a step pushed the contents of a packet that contains it and was sent by then
pub record IsRedPushOf (r : RedRan) (k : ℕ) (p : Packet) (meta : RtpMeta) : Type 0 where
  pub place : ℕ
  pub carrier : ℕ
  pub pushes : slice_get r.steps place ≡ Some (steps.Push carrier)
  pub after_send : carrier < sent_before place r.sends
  pub carried : IsIn r k carrier
  pub told : meta ≡ meta_of_block place r.before.plain.payloading.clock_rate r.with.receiver.primary_pt (k == carrier) p

-- a packet recovered from packet k was sent: with that packet or before it
pub record WasSent (r : RedRan) (k : ℕ) (x : RecoveredPacket) : Type 0 where
  pub index : ℕ
  pub packet : Packet
  pub there : slice_get (sent_in r) index ≡ Some packet
  pub number : x.seq_no ≡ packet.number
  pub time : x.time ≡ packet.rtp_time
  pub bytes : x.bytes ≡ packet.payload
  pub carried : IsIn r index k
  pub primary : x.is_primary ≡ (index == k)

-- the units of the samples, as the steps send them, with their packets: only the last packet of each ends a unit. The pops returned
-- these units, in order, each at most once, with packets that were pushed before the pop
pub record ReleasesRecovered (r : RedRan) : Type 0 where
  pub units : List SentUnit
  pub canonical : map (λ (u : SentUnit). u.parts) units ≡ units_of_run r.before.plain.payloading.packetizer r.samples r.steps
  pub packets : packets_of units ≡ sent_in r
  pub ends : AllEndWithTail (payloads_by r.before.plain.payloading.packetizer) units
  pub in_order : InOrder (IsRedPushOf r) (may_split r.before.plain.payloading.packetizer) units 0 r.pops
  pub before_pops : AreOfEarlier 0 r.steps r.pops

-- the buffer has room for all packets that were sent, and each of them is in one that is pushed before the first pop
pub record IsAllThere (r : RedRan) : Type 0 where
  pub few : length (sent_in r) ≤ r.before.plain.buffer.limit
  pub there : (k : ℕ) → k < length (sent_in r) → (carrier : ℕ) × IsPushedFirst r.steps r.sends carrier × IsIn r k carrier

-- units are released in order; and if all packets arrive, exactly all of them
pub record RecoversUnits (r : RedRan) : Type 0 where
  pub released : ReleasesRecovered r
  pub exactly : IsAllThere r → AnswersAll (IsRedPushOf r) 0 released.units r.pops

-- the push of step `place` for that packet, if there is one
abbrev pub recovered_held : ℕ → ℕ → Receiver → Option Packet → DepacketizerState → List Held
recovered_held place clock_rate receiver None depacketizer = []
recovered_held place clock_rate receiver (Some p) depacketizer = map
    (λ (x : RecoveredPacket). arrived depacketizer (meta_of_recovered place clock_rate receiver.primary_pt p x) x.bytes) (recovered_in receiver p)

-- the pushes of each step of the run
abbrev pub pushes_of : RedRan → ℕ → ℕ → DepacketizerState → List Held
pushes_of r place k = recovered_held place r.before.plain.payloading.clock_rate r.with.receiver (packet_named r.after.images r.sends place k)

-- the run described pop by pop, with the units that it sends
pub record RedLog (r : RedRan) : Type 0 where
  pub released : ReleasesRecovered r
  pub lawful : AllLawful (payloads_by r.before.plain.payloading.packetizer) (may_split r.before.plain.payloading.packetizer) released.units
  pub turns : List Turn
  pub end : Stretch
  pub is_log : IsLogBy (pushes_of r) 0 r.steps (begun r.before.plain.buffer) turns end
  pub answers : map (λ (turn : Turn). turn.answer) turns ≡ r.pops
  pub left : end.now ≡ r.after.plain.buffer

-- this applies to each log of a run that meets the premises
abbrev pub OfEachRedLog : (r : RedRan) → (RedLog r → Type 0) → Type 0
OfEachRedLog r P = IsRedFresh r → (log : RedLog r) → P log

-- Run as steps: the steps are done one after another, each as the calls that it makes say.
abbrev pub RunsAsRedSteps : RedRan → Type 0
RunsAsRedSteps r = RunsInRed r.with r.samples 0 r.steps r.before r.sends r.pops r.after

-- Counts: one entry for each `Send` that names a sample, one result for each `Pop`, and the sink gains the packets that the entries
-- count.
abbrev pub CountsRedSteps : RedRan → Type 0
CountsRedSteps r = IsCounted r.samples r.steps r.before.plain r.sends r.pops r.after.plain

-- Recovery: every packet recovered from a packet was sent, with that number, RTP time and payload.
abbrev pub RecoversWhatWasSent : RedRan → Type 0
RecoversWhatWasSent r = IsRedFresh r → (k : ℕ) (p : Packet) → slice_get r.after.images k ≡ Some p → AllByRecursion (WasSent r k) (recovered_in r.with.receiver p)

-- The safety half, with the recovered packets as further pushes.
abbrev pub IsSafeInRed : RedRan → Type 0
IsSafeInRed r = IsRedFresh r → ReleasesRecovered r

-- The exact half: a packet counts as pushed if it is in a kept level of a pushed packet.
abbrev pub IsExactInRed : RedRan → Type 0
IsExactInRed r = IsRedFresh r → RecoversUnits r

abbrev pub IsLoggedInRed : RedRan → Type 0
IsLoggedInRed r = IsRedFresh r → RedLog r

-- Order: of the packets pushed between two pops, recovered ones too, only the set counts.
abbrev pub IsFreeOfOrderInRed : RedRan → Type 0
IsFreeOfOrderInRed r = OfEachRedLog r (λ log. AreStretches (IsRedPushOf r) r.before.plain.sink.first (sent_in r) log.turns log.end)

-- Contiguous: exactly if the first number of a unit follows the last number of the previous release, or it is the first and no
-- packet was evicted before it.
abbrev pub TellsContiguousInRed : RedRan → Type 0
TellsContiguousInRed r = OfEachRedLog r (λ log. AllFollowAsSaid r.before.plain.sink.first (length (sent_in r)) None false log.turns)

-- No silent loss: a unit that is held whole before a pop is released by that or a later one, or held whole in the end, unless a
-- packet of it was evicted; no pop skips a unit.
abbrev pub LosesNothingSilentlyInRed : RedRan → Type 0
LosesNothingSilentlyInRed r =
    OfEachRedLog r (λ log. NoneIsLost (IsRedPushOf r) r.before.plain.sink.first (may_split r.before.plain.payloading.packetizer) log.released.units log.turns log.end)

abbrev pub PassesNothingOverInRed : RedRan → Type 0
PassesNothingOverInRed r = OfEachRedLog r (λ log. NonePassedOver log.turns)

-- Beginning: if the first release is the first unit, whole, nothing is evicted and no pop is too early, the released units are the
-- first of the sent ones, each whole.
abbrev pub BeginsWithFirstInRed : RedRan → Type 0
BeginsWithFirstInRed r =
    OfEachRedLog r (λ log. FirstIsWhole (IsRedPushOf r) (may_split r.before.plain.payloading.packetizer) log.released.units r.pops
    → NoneEvicted r.before.plain.sink.first (length (sent_in r)) log.turns
    → IsPatient r.before.plain.sink.first log.released.units 0 log.turns
    → AreNext (IsRedPushOf r) (may_split r.before.plain.payloading.packetizer) log.released.units 0 r.pops)

-- all of it
pub record KeepsRedPromises (r : RedRan) : Type 0 where
  pub run_as_steps : RunsAsRedSteps r
  pub counted : CountsRedSteps r
  pub were_sent : RecoversWhatWasSent r
  pub safety_half : IsSafeInRed r
  pub exact_half : IsExactInRed r
  pub logged : IsLoggedInRed r
  pub order : IsFreeOfOrderInRed r
  pub contiguous : TellsContiguousInRed r
  pub no_silent_loss : LosesNothingSilentlyInRed r
  pub none_skipped : PassesNothingOverInRed r
  pub beginning : BeginsWithFirstInRed r
