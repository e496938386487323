-- The units that a buffer releases for a run, with any loss, repetition and reordering.
use Rattle.std.specs.Prelude.{◌≡◌, ℕ, ◌+◌, ◌<◌, ◌≤◌, Bool, true, false, List, [], ◌∷◌, ◌++◌, Some, None, Ok, Err, length, map, take, slice_get}
use Rattle.codec_payload_contiguity.specs.ContiguityTable.{contiguity_for}
use Rattle.codec_payload_codec.specs.Depacketizers.{kind_of_depacketizer}
use Rattle.codec_payload_codec.specs.Packetizers.{is_built_in, payloads_by, may_split}
use Rattle.codec_payload_payloader.specs.Packets.{Packet}
use Rattle.codec_payload_buffer_runs.specs.RunCounts.{sent_before}
use Rattle.codec_payload_buffer_runs.specs.ReportedIds.{read_by}
use Rattle.codec_payload_metadata.specs.Release.{Release}
use Rattle.codec_payload_buffer_runs.specs.Schedule.{Answer, RunState, meta_of_push}
use Rattle.codec_payload_payloader.specs.Sending.{Sample}
use Rattle.codec_payload_buffer_runs.specs.SentStream.{SentUnit, packets_of, AllEndWithTail, IsReleaseOf, units_of_run}
use Rattle.codec_payload_metadata.specs.declared.meta.RtpMeta.{RtpMeta}
use Rattle.codec_payload_buffer_runs.specs.declared.run.Sent.{Sent}
use Rattle.codec_payload_buffer_runs.specs.declared.run.Step.{Step}
use Rattle.codec_payload_buffer_runs.specs.declared.run.Step.TheVariants as steps

-- the metadata of one push of the packet with index k: a step pushed it after it was sent
abbrev pub IsPushOf : List Step → List Sent → ℕ → ℕ → Packet → RtpMeta → Type 0
IsPushOf all_steps sends clock_rate k p meta =
    (place : ℕ) × (slice_get all_steps place ≡ Some (steps.Push k)) × (k < sent_before place sends) × (meta ≡ meta_of_push place clock_rate p)

-- steps before this place pushed all of these; `received` names the step
abbrev pub ArePushedBefore : ℕ → List RtpMeta → Type 0
ArePushedBefore place [] = Unit {0}
ArePushedBefore place (m ∷ ms) = (m.received.0 < place) × ArePushedBefore place ms

-- and all packets of the unit, if one is released
abbrev pub IsOfEarlier : ℕ → Answer → Type 0
IsOfEarlier place None = Unit {0}
IsOfEarlier place (Some (Err fault)) = Unit {0}
IsOfEarlier place (Some (Ok r)) = ArePushedBefore place r.metas

-- each pop of the steps from `place` on releases packets that steps before it pushed
abbrev pub AreOfEarlier : ℕ → List Step → List Answer → Type 0
AreOfEarlier place [] answers = Unit {0}
AreOfEarlier place (steps.Send i mtu ∷ later) answers = AreOfEarlier (place + 1) later answers
AreOfEarlier place (steps.Push k ∷ later) answers = AreOfEarlier (place + 1) later answers
AreOfEarlier place (steps.Pop ∷ later) [] = ⊥
AreOfEarlier place (steps.Pop ∷ later) (answer ∷ answers) = IsOfEarlier place answer × AreOfEarlier (place + 1) later answers

-- the metadata of one push each of exactly these packets, in order, from index k on; `known` says what can be known of a push of
-- the packet with an index
abbrev pub ArePushesBy : (ℕ → Packet → RtpMeta → Type 0) → ℕ → List Packet → List RtpMeta → Type 0
ArePushesBy known k [] [] = Unit {0}
ArePushesBy known k (p ∷ ps) (m ∷ ms) = known k p m × ArePushesBy known (k + 1) ps ms
ArePushesBy known k [] (m ∷ ms) = ⊥
ArePushesBy known k (p ∷ ps) [] = ⊥

-- how many packets the first n units have
abbrev pub packets_before : ℕ → List SentUnit → ℕ
packets_before n units = length (packets_of (take n units))

-- the release is the unit at a place: whole, or, if units may be split and packets are missing, its last parts; the metadata of its
-- packets is that of one push each of exactly those packets
pub record IsUnitAt (known : ℕ → Packet → RtpMeta → Type 0) (splits : Bool) (units : List SentUnit) (place : ℕ) (r : Release) : Type 0 where
  pub sent : SentUnit
  pub at_place : slice_get units place ≡ Some sent
  pub missing : List Packet
  pub rest : List Packet
  pub whole : missing ++ rest ≡ sent.packets
  pub bytes : IsReleaseOf splits sent missing r.bytes
  pub metas : ArePushesBy known (packets_before place units + length missing) rest r.metas

-- the results of the pops: no fault, and units at strictly rising places, from `from` on
abbrev pub InOrder : (ℕ → Packet → RtpMeta → Type 0) → Bool → List SentUnit → ℕ → List Answer → Type 0
InOrder known splits units from [] = Unit {0}
InOrder known splits units from (None ∷ answers) = InOrder known splits units from answers
InOrder known splits units from (Some (Err fault) ∷ answers) = ⊥
InOrder known splits units from (Some (Ok r) ∷ answers) =
    (place : ℕ) × (from ≤ place) × IsUnitAt known splits units place r × InOrder known splits units (place + 1) answers

-- the packetizer is built in; the sink and the buffer are unused; the buffer's depacketizer reads the payloads of the payloader's
-- packetizer, and has extended no picture ids
pub record IsUnused (s : RunState) : Type 0 where
  pub built_in : is_built_in s.payloading.packetizer ≡ true
  pub nothing_sent : s.sink.packets ≡ []
  pub nothing_held : s.buffer.held ≡ []
  pub no_cutoff : s.buffer.cutoff ≡ None
  pub no_mark : s.buffer.evicted ≡ false
  pub alike : kind_of_depacketizer s.buffer.depacketizer ≡ payloads_by s.payloading.packetizer
  pub nothing_read : read_by s.buffer.depacketizer ≡ None
  pub nothing_kept : s.buffer.contiguity ≡ contiguity_for (kind_of_depacketizer s.buffer.depacketizer)

-- the units of the samples, as the steps send them, with their packets: only the last packet of each ends a unit, and the sink
-- holds them. The pops returned these units, in order, each at most once, with packets that were pushed before the pop
pub record ReleasesInOrder (samples : List Sample) (all_steps : List Step) (s : RunState) (sends : List Sent) (pops : List Answer) (t : RunState) : Type 0 where
  pub units : List SentUnit
  pub canonical : map (λ (u : SentUnit). u.parts) units ≡ units_of_run s.payloading.packetizer samples all_steps
  pub packets : packets_of units ≡ t.sink.packets
  pub ends : AllEndWithTail (payloads_by s.payloading.packetizer) units
  pub in_order : InOrder (IsPushOf all_steps sends s.payloading.clock_rate) (may_split s.payloading.packetizer) units 0 pops
  pub before_pops : AreOfEarlier 0 all_steps pops
