-- If everything was pushed before the first pop, a buffer releases exactly the units of a run.
use Rattle.std.specs.Prelude.{◌≡◌, ◌≢◌, ℕ, ◌+◌, ◌<◌, ◌≤◌, List, [], ◌∷◌, Some, None, Ok, Contains, length, slice_get}
use Rattle.codec_payload_base.specs.Pieces.{joined}
use Rattle.codec_payload_buffer_runs.specs.Headline.{IsPushOf, ArePushesBy, ReleasesInOrder}
use Rattle.codec_payload_metadata.specs.Release.{Release}
use Rattle.codec_payload_metadata.specs.declared.meta.RtpMeta.{RtpMeta}
use Rattle.codec_payload_payloader.specs.Packets.{Packet}
use Rattle.codec_payload_buffer_runs.specs.Schedule.{Answer, RunState}
use Rattle.codec_payload_payloader.specs.Sending.{Sample}
use Rattle.codec_payload_buffer_runs.specs.SentStream.{SentUnit}
use Rattle.codec_payload_buffer_runs.specs.declared.run.Sent.{Sent}
use Rattle.codec_payload_buffer_runs.specs.declared.run.Step.{Step}
use Rattle.codec_payload_buffer_runs.specs.declared.run.Step.TheVariants as steps

-- a step before the first pop pushes packet k, and the sink holds that packet by then: an earlier step sent it, and its entry says
-- so
pub record IsPushedFirst (all_steps : List Step) (sends : List Sent) (k : ℕ) : Type 0 where
  pub place : ℕ
  pub pushes : slice_get all_steps place ≡ Some (steps.Push k)
  pub before_pops : (other : ℕ) → other < place → slice_get all_steps other ≢ Some steps.Pop
  pub entry : Sent
  pub noted : Contains sends entry
  pub sent_before : entry.step < place
  pub reaches : k < entry.first + entry.count

-- the buffer has room for all packets that the run sends, and each of them is pushed before the first pop
pub record IsAllPushed (all_steps : List Step) (sends : List Sent) (s t : RunState) : Type 0 where
  pub few : length t.sink.packets ≤ s.buffer.limit
  pub pushed : (k : ℕ) → k < length t.sink.packets → IsPushedFirst all_steps sends k

-- the release is this unit with nothing missing: the bytes of all its parts, and the metadata of one push each of exactly its
-- packets, whose indices start at k
pub record IsWhole (known : ℕ → Packet → RtpMeta → Type 0) (k : ℕ) (u : SentUnit) (r : Release) : Type 0 where
  pub bytes : r.bytes ≡ joined u.parts
  pub metas : ArePushesBy known k u.packets r.metas

-- the pops return each of these units in order, whole, and then always None; their packets have the indices from k on
abbrev pub AnswersAll : (ℕ → Packet → RtpMeta → Type 0) → ℕ → List SentUnit → List Answer → Type 0
AnswersAll known k units [] = Unit {0}
AnswersAll known k [] (answer ∷ answers) = (answer ≡ None) × AnswersAll known k [] answers
AnswersAll known k (u ∷ us) (answer ∷ answers) =
    (r : Release) × (answer ≡ Some (Ok r)) × IsWhole known k u r × AnswersAll known (k + length u.packets) us answers

-- units are released in order, each at most once; and if all packets are pushed first, exactly all of them
pub record ReleasesUnits (samples : List Sample) (all_steps : List Step) (s : RunState) (sends : List Sent) (pops : List Answer) (t : RunState) : Type 0 where
  pub in_order : ReleasesInOrder samples all_steps s sends pops t
  pub exactly : IsAllPushed all_steps sends s t → AnswersAll (IsPushOf all_steps sends s.payloading.clock_rate) 0 in_order.units pops
