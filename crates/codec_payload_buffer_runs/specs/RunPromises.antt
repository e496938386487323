-- The guarantees of a whole run.
use Rattle.std.specs.Prelude.{List, map}
use Rattle.codec_payload_base.specs.declared.wire.ToPayload.{ToPayload}
use Rattle.codec_payload_buffer_runs.specs.Exact.{ReleasesUnits}
use Rattle.codec_payload_buffer_runs.specs.Headline.{IsUnused, ReleasesInOrder}
use Rattle.codec_payload_buffer_runs.specs.Log.{RunLog}
use Rattle.codec_payload_buffer_runs.specs.RunCounts.{IsCounted}
use Rattle.codec_payload_buffer_runs.specs.RunOrder.{IsOrderFree, IsContiguousAsSaid}
use Rattle.codec_payload_buffer_runs.specs.RunValues.{HaveValuesOfSamples}
use Rattle.codec_payload_buffer_runs.specs.RunUnits.{LosesNoneSilently, PassesNoneOver, PassesOnlyPastGap, BeginsAsSent}
use Rattle.codec_payload_buffer_runs.specs.Schedule.{Answer, RunState, Runs}
use Rattle.codec_payload_payloader.specs.Sending.{Sample, sample_of}
use Rattle.codec_payload_buffer_runs.specs.SentStream.{AreReadable}
use Rattle.codec_payload_buffer_runs.specs.declared.run.Run.{Run}
use Rattle.codec_payload_buffer_runs.specs.declared.run.Sent.{Sent}
use Rattle.codec_payload_buffer_runs.specs.declared.run.Step.{Step}

-- a run: the samples, the steps, the payloader, the buffer and the sink before; the entries of the sends, the results of the pops,
-- and the three afterwards
pub record Ran : Type 0 where
  pub samples : List Sample
  pub steps : List Step
  pub before : RunState
  pub sends : List Sent
  pub pops : List Answer
  pub after : RunState

abbrev pub ran : List ToPayload → List Step → RunState → Run → RunState → Ran
ran samples steps before run after = record { samples = map sample_of samples; steps = steps; before = before; sends = run.sends.items; pops = run.pops.items; after = after }

-- the premises: the packetizer is built in, the sink and the buffer are unused, the buffer reads the payloader's payloads, and the
-- packets sent for the samples can be read back
abbrev pub IsFresh : Ran → Type 0
IsFresh r = IsUnused r.before × AreReadable r.before.payloading.packetizer r.samples

-- a log describes the run pop by pop
abbrev pub LogOf : Ran → Type 0
LogOf r = RunLog r.samples r.steps r.before r.sends r.pops r.after

-- this applies to each log of a run that meets the premise
abbrev pub OfEachLog : Type 0 → (r : Ran) → (LogOf r → Type 0) → Type 0
OfEachLog premise r P = premise → (log : LogOf r) → P log

-- Run as steps: the steps are done one after another, each as the call that it makes says.
abbrev pub RunsAsSteps : Ran → Type 0
RunsAsSteps r = Runs r.samples 0 r.steps r.before r.sends r.pops r.after

-- Counts: one entry for each `Send` that names a sample, one result for each `Pop`, and the sink gains the packets that the entries
-- count. This, and the run as steps, apply to every codec, including custom ones.
abbrev pub CountsSteps : Ran → Type 0
CountsSteps r = IsCounted r.samples r.steps r.before r.sends r.pops r.after

-- The safety half: whatever is lost, repeated and reordered, the canonical units of the samples are released, in order,
-- each at most once and whole.
abbrev pub IsSafe : Type 0 → Ran → Type 0
IsSafe premise r = premise → ReleasesInOrder r.samples r.steps r.before r.sends r.pops r.after

-- The exact half: if the buffer has room for all packets and each is pushed before the first pop, all of these units.
abbrev pub IsExact : Type 0 → Ran → Type 0
IsExact premise r = premise → ReleasesUnits r.samples r.steps r.before r.sends r.pops r.after

-- Every run can be described pop by pop: the pushes since the previous pop, the result, and the buffer.
abbrev pub IsLogged : Type 0 → Ran → Type 0
IsLogged premise r = premise → LogOf r

-- Order: of the packets pushed between two pops only the set counts, evictions included, neither order nor repeats.
abbrev pub IsFreeOfOrder : Type 0 → Ran → Type 0
IsFreeOfOrder premise r = OfEachLog premise r IsOrderFree

-- Contiguous: if picture id and TL0PICIDX are not both sent, a unit is reported as contiguous exactly if its first number follows
-- the last number of the previous release, or it is the first and no packet was evicted before it.
abbrev pub TellsContiguous : Type 0 → Ran → Type 0
TellsContiguous premise r = OfEachLog premise r IsContiguousAsSaid

-- No silent loss: a unit that is held whole before a pop is released by that or a later one, or held whole in the end, unless a
-- packet of it was evicted, or a pop skipped it.
abbrev pub LosesNothingSilently : Type 0 → Ran → Type 0
LosesNothingSilently premise r = OfEachLog premise r LosesNoneSilently

-- If picture id and TL0PICIDX are not both sent, no pop skips a unit.
abbrev pub PassesNothingOver : Type 0 → Ran → Type 0
PassesNothingOver premise r = OfEachLog premise r PassesNoneOver

-- If both are sent, a unit is skipped only after 16,384 units in a row that no pop returned.
abbrev pub PassesOverPastGaps : Type 0 → Ran → Type 0
PassesOverPastGaps premise r = OfEachLog premise r PassesOnlyPastGap

-- Beginning: if the first release is the first unit, whole, nothing is evicted and no pop is too early, the released units are the
-- first of the sent ones, each whole.
abbrev pub BeginsWithFirst : Type 0 → Ran → Type 0
BeginsWithFirst premise r = OfEachLog premise r BeginsAsSent

-- Extension values: a release that is a whole unit of video has the extension values of that unit's sample.
abbrev pub TellsExtensionValues : Type 0 → Ran → Type 0
TellsExtensionValues premise r = premise → (released : ReleasesInOrder r.samples r.steps r.before r.sends r.pops r.after) → HaveValuesOfSamples released

-- all of it, if that premise is met
pub record KeepsPromisesIf (premise : Type 0) (r : Ran) : Type 0 where
  pub run_as_steps : RunsAsSteps r
  pub counted : CountsSteps r
  pub safety_half : IsSafe premise r
  pub exact_half : IsExact premise r
  pub logged : IsLogged premise r
  pub order : IsFreeOfOrder premise r
  pub contiguous : TellsContiguous premise r
  pub no_silent_loss : LosesNothingSilently premise r
  pub none_skipped : PassesNothingOver premise r
  pub skipped_past_gap : PassesOverPastGaps premise r
  pub beginning : BeginsWithFirst premise r
  pub extension_values : TellsExtensionValues premise r

-- all of it, of a fresh run
abbrev pub KeepsPromises : Ran → Type 0
KeepsPromises r = KeepsPromisesIf (IsFresh r) r
