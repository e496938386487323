-- The extension values of the units of a run.
use Rattle.std.specs.Prelude.{◌≡◌, ℕ, true, List, [], ◌∷◌, ◌++◌, Option, Some, None, map, slice_get}
use Rattle.codec_payload_base.specs.declared.wire.extension.ExtensionValues.{ExtensionValues}
use Rattle.codec_payload_codec.specs.Packetizers.{PacketizerState, is_video, may_split}
use Rattle.codec_payload_metadata.specs.Release.{Release, AreValues}
use Rattle.codec_payload_buffer_runs.specs.Headline.{IsPushOf, ReleasesInOrder}
use Rattle.codec_payload_buffer_runs.specs.RunUnits.{IsWholeAt}
use Rattle.codec_payload_buffer_runs.specs.Schedule.{Answer, RunState}
use Rattle.codec_payload_payloader.specs.Sending.{Sample}
use Rattle.codec_payload_buffer_runs.specs.SentStream.{packetizer_after_sample}
use Rattle.codec_payload_buffer_runs.specs.Units.{canonical_units}
use Rattle.codec_payload_buffer_runs.specs.declared.run.Sent.{Sent}
use Rattle.codec_payload_buffer_runs.specs.declared.run.Step.{Step}
use Rattle.codec_payload_buffer_runs.specs.declared.run.Step.TheVariants as steps

-- for each unit of a sample, the values of the sample
abbrev pub values_of_sample : PacketizerState → ℕ → Option Sample → List ExtensionValues
values_of_sample packetizer mtu None = []
values_of_sample packetizer mtu (Some sample) = map (λ (unit : List (List ℕ)). sample.ext_vals) (canonical_units packetizer mtu sample.bytes)

-- for each unit that the steps of a run send, in order, the values of its sample: determined by the samples and the steps
abbrev pub values_of_run : PacketizerState → List Sample → List Step → List ExtensionValues
values_of_run packetizer samples [] = []
values_of_run packetizer samples (steps.Send i mtu ∷ later) =
    values_of_sample packetizer mtu (slice_get samples i) ++ values_of_run (packetizer_after_sample packetizer mtu (slice_get samples i)) samples later
values_of_run packetizer samples (steps.Push k ∷ later) = values_of_run packetizer samples later
values_of_run packetizer samples (steps.Pop ∷ later) = values_of_run packetizer samples later

-- each release that is a whole unit of video has the values of that unit's sample
abbrev pub HaveValuesOfSamples : {samples : List Sample} {all_steps : List Step} {s : RunState} {sends : List Sent} {pops : List Answer} {t : RunState}
    → ReleasesInOrder samples all_steps s sends pops t → Type 0
HaveValuesOfSamples {samples} {all_steps} {s} {sends} {pops} {t} released =
    is_video s.payloading.packetizer ≡ true → (place : ℕ) (r : Release) → IsWholeAt (IsPushOf all_steps sends s.payloading.clock_rate) (may_split s.payloading.packetizer) released.units place r
    → (values : ExtensionValues) × (slice_get (values_of_run s.payloading.packetizer samples all_steps) place ≡ Some values) × AreValues r.metas values
