-- What the entries of a run say about its sink, and that its premises can be met.
use Rattle.std.proofs.Common.{◌≡◌, ◌≢◌, ◌∙◌, refl, sym, ap, ℕ, zero, suc, subst, List, [], Option, Some, None, ◌+◌, ◌∷◌, ◌<◌, ◌≤◌, inl, inr, arith, length}
use Rattle.std.specs.Prelude.{slice_get, MatchOption}
use Rattle.std.proofs.lemmas.List.{length-append}
use Rattle.codec_payload_buffer.proofs.MemberLemmas.{IsIn, in_append}
use Rattle.codec_payload_buffer_runs.proofs.units.BuiltInRuns.{Pushing, Runs, DoesStep, SendsIt, plainly}
use Rattle.codec_payload_buffer_runs.proofs.order.ScheduleLemmas.{length-packets_for}
use Rattle.codec_payload_buffer_runs.specs.Exact.{IsPushedFirst}
use Rattle.codec_payload_buffer_runs.specs.Schedule.{Answer, RunState, packets_sent, payloads_of}
use Rattle.codec_payload_payloader.specs.Sending.{Sample, rtp_time_at}
use Rattle.codec_payload_buffer_runs.specs.declared.run.Sent.{Sent}
use Rattle.codec_payload_buffer_runs.specs.declared.run.Step.{Step}
use Rattle.codec_payload_buffer_runs.specs.declared.run.Step.TheVariants as steps

-- an entry describes the step that made it, and the number of packets in the sink after it
pub record IsEntryOf (place : ℕ) (s mid : RunState) (entry : Sent) : Type 0 where
  pub at : entry.step ≡ place
  pub reach : entry.first + entry.count ≡ length mid.sink.packets

pub entry_of : (place mtu : ℕ) (sample : Sample) (s mid : RunState) (entry : Sent) → SendsIt place mtu sample s entry mid → IsEntryOf place s mid entry
entry_of place mtu sample s mid entry sent =
    let payloads = payloads_of sent.answer in
    let packets = packets_sent s sent.packetizer sample payloads in
    let many : length packets ≡ length payloads = length-packets_for sent.packetizer sample (rtp_time_at s.payloading.clock_rate sample.rtp_time) (s.sink.first + length s.sink.packets) payloads in
    let grown : length mid.sink.packets ≡ length s.sink.packets + length packets = ap (λ (x : RunState). length x.sink.packets) sent.left ∙ length-append s.sink.packets packets in
    record {
      at = ap (λ (x : Sent). x.step) sent.entry_is;
      reach = omega (arith, ap (λ (x : Sent). x.first) sent.entry_is, ap (λ (x : Sent). x.count) sent.entry_is, many, grown);
    }

pub entry_made : (samples : List Sample) (place i mtu : ℕ) (s mid : RunState) (sends : List Sent) (pops : List Answer) (entry : Sent)
    → DoesStep plainly samples place (steps.Send i mtu) s sends pops mid → IsIn entry sends → IsEntryOf place s mid entry
entry_made samples place i mtu s mid sends pops entry step is = at (slice_get samples i) step.1
  where
    at : (o : Option Sample) → MatchOption o ((sends ≡ []) × (mid ≡ s)) (λ sample. (made : Sent) × (sends ≡ made ∷ []) × SendsIt place mtu sample s made mid) → IsEntryOf place s mid entry
    at None step = absurd (subst (IsIn entry) step.0 is)
    at (Some sample) step = elim (subst (IsIn entry) step.1 is) [
      | inl same ↦ subst (IsEntryOf place s mid) (sym same) (entry_of place mtu sample s mid step.0 step.2)
      | inr none ↦ absurd none
    ]

made_at : (pushing : Pushing) (samples : List Sample) (place : ℕ) (step : Step) (s mid : RunState) (sends : List Sent) (pops : List Answer) (entry : Sent)
    → DoesStep pushing samples place step s sends pops mid → IsIn entry sends → entry.step ≡ place
made_at pushing samples place (steps.Send i mtu) s mid sends pops entry step is = (entry_made samples place i mtu s mid sends pops entry step is).at
made_at pushing samples place (steps.Push k) s mid sends pops entry step is = absurd (subst (IsIn entry) step.0 is)
made_at pushing samples place steps.Pop s mid sends pops entry step is = absurd (subst (IsIn entry) step.0 is)

-- the entries of the steps that are left come from these
pub made_from : (pushing : Pushing) (samples : List Sample) (place : ℕ) (later : List Step) (s t : RunState) (sends : List Sent) (pops : List Answer) (entry : Sent)
    → Runs pushing samples place later s sends pops t → IsIn entry sends → place ≤ entry.step
made_from pushing samples place [] s t sends pops entry run is = absurd (subst (IsIn entry) run.0 is)
made_from pushing samples place (step ∷ later) s t sends pops entry run is = elim (in_append entry run.0 run.1 (subst (IsIn entry) run.5 is)) [
  | inl here ↦ omega (arith, made_at pushing samples place step s run.4 run.0 run.2 entry run.7 here)
  | inr after ↦ omega (arith, made_from pushing samples (place + 1) later run.4 t run.1 run.3 entry run.8 after)
]

-- The premises can be met: two packets are sent, and pushed the other way round, one of them again between two pops.
abbrev example_steps : List Step
example_steps = steps.Send 0 1 ∷ steps.Push 1 ∷ steps.Push 0 ∷ steps.Pop ∷ steps.Push 1 ∷ steps.Pop ∷ []

abbrev example_entry : Sent
example_entry = record { step = 0; first = 0; count = 2; fault = None }

no_pop_before : (other : ℕ) → other < 3 → slice_get example_steps other ≢ Some steps.Pop
no_pop_before zero l e = cc
no_pop_before (suc zero) l e = cc
no_pop_before (suc (suc zero)) l e = cc
no_pop_before (suc (suc (suc n))) l e = omega (arith, l)

all_pushed_first : (k : ℕ) → k < 2 → IsPushedFirst example_steps (example_entry ∷ []) k
all_pushed_first zero l = record {
  place = 2;
  pushes = refl;
  before_pops = λ other m. no_pop_before other (omega (arith, m));
  entry = example_entry;
  noted =
      (0, omega arith, refl);
  sent_before = omega arith;
  reaches = omega arith;
}
all_pushed_first (suc zero) l = record {
  place = 1;
  pushes = refl;
  before_pops = λ other m. no_pop_before other (omega (arith, m));
  entry = example_entry;
  noted =
      (0, omega arith, refl);
  sent_before = omega arith;
  reaches = omega arith;
}
all_pushed_first (suc (suc k)) l = absurd (omega (arith, l))
