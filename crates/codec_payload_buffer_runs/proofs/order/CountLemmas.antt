-- Each step that has an entry or a result gives one.
use Rattle.std.proofs.Common.{◌≡◌, ◌∙◌, sym, ap, refl, ℕ, ◌+◌, List, [], ◌∷◌, ◌++◌, append_assoc, length, length-append, arith, Option, Some, None}
use Rattle.std.proofs.lemmas.List.{append-nil}
use Rattle.std.specs.Prelude.{MatchOption, slice_get}
use Rattle.codec_payload_codec.specs.Packetizers.{is_built_in}
use Rattle.codec_payload_buffer_runs.proofs.order.ScheduleLemmas.{length-packets_for}
use Rattle.codec_payload_payloader.proofs.SendLemmas.{as_many}
use Rattle.codec_payload_payloader.specs.Packets.{Packet}
use Rattle.codec_payload_buffer_runs.specs.RedSchedule.{Protection, RedState, DoesRedStep, RunsInRed}
use Rattle.codec_payload_buffer_runs.specs.RunCounts.{IsCounted, sends_in, pops_in, one_of, packets_counted}
use Rattle.codec_payload_buffer_runs.specs.Schedule.{Answer, RunState, Runs, DoesStep, SendsIt, payloads_of}
use Rattle.codec_payload_payloader.specs.Sending.{Sample, rtp_time_at}
use Rattle.codec_payload_buffer_runs.specs.declared.run.Sent.{Sent}
use Rattle.codec_payload_buffer_runs.specs.declared.run.Step.{Step}
use Rattle.codec_payload_buffer_runs.specs.declared.run.Step.TheVariants as steps

counted_append : (xs ys : List Sent) → packets_counted (xs ++ ys) ≡ packets_counted xs + packets_counted ys
counted_append [] ys = omega arith
counted_append (x ∷ xs) ys = omega (arith, counted_append xs ys)

-- the entry of a sample counts the packets that the sink gained
entry_counts : (place mtu : ℕ) (sample : Sample) (s : RunState) (entry : Sent) (t : RunState) (sent : SendsIt place mtu sample s entry t) → length sent.packets ≡ entry.count
entry_counts place mtu sample s entry t sent =
    as_many (is_built_in sent.packetizer) sent.packets _ sent.are
    ∙ length-packets_for sent.packetizer sample (rtp_time_at s.payloading.clock_rate sample.rtp_time) (s.sink.first + length s.sink.packets) (payloads_of sent.answer)
    ∙ sym (ap (λ (e : Sent). e.count) sent.entry_is)

-- one step
abbrev StepCounts : List Sample → Step → RunState → List Sent → List Answer → RunState → Type 0
StepCounts samples step s sends pops t = IsCounted samples (step ∷ []) s sends pops t

nothing_counted : (samples : List Sample) (all_steps : List Step) (s t : RunState) (sends : List Sent) (pops : List Answer) → sends ≡ [] → pops ≡ []
    → t.sink.packets ≡ s.sink.packets → sends_in samples all_steps ≡ 0 → pops_in all_steps ≡ 0
    → IsCounted samples all_steps s sends pops t
nothing_counted samples all_steps s t sends pops none silent same no_sends no_pops = record {
  entries = ap length none ∙ sym no_sends;
  answers = ap length silent ∙ sym no_pops;
  gained = [];
  sink = same ∙ sym (append-nil s.sink.packets);
  packets = sym (ap packets_counted none);
}

step_counts : (samples : List Sample) (place : ℕ) (step : Step) (s : RunState) (sends : List Sent) (pops : List Answer) (t : RunState)
    → DoesStep samples place step s sends pops t → StepCounts samples step s sends pops t
step_counts samples place (steps.Send i mtu) s sends pops t done = at (slice_get samples i) refl done.1
  where
    at : (o : Option Sample) → slice_get samples i ≡ o → MatchOption o ((sends ≡ []) × (t ≡ s))
        (λ sample. (entry : Sent) × (sends ≡ entry ∷ []) × SendsIt place mtu sample s entry t) → StepCounts samples (steps.Send i mtu) s sends pops t
    at None here step = nothing_counted samples (steps.Send i mtu ∷ []) s t sends pops step.0 done.0 (ap (λ (x : RunState). x.sink.packets) step.1) (omega (arith, ap one_of here)) refl
    at (Some sample) here step =
        let counts : length step.2.packets ≡ step.0.count = entry_counts place mtu sample s step.0 t step.2 in
        let one : packets_counted sends ≡ step.0.count + 0 = ap packets_counted step.1 in
        record {
          entries = omega (arith, ap length step.1, ap one_of here);
          answers = ap length done.0;
          gained = step.2.packets;
          sink = ap (λ (x : RunState). x.sink.packets) step.2.left;
          packets = omega (arith, counts, one);
        }
step_counts samples place (steps.Push k) s sends pops t done = nothing_counted samples (steps.Push k ∷ []) s t sends pops done.0 done.1 (ap (λ (x : RunState). x.sink.packets) done.4) refl refl
step_counts samples place steps.Pop s sends pops t done = record {
  entries = ap length done.0;
  answers = ap length done.3;
  gained = [];
  sink = ap (λ (x : RunState). x.sink.packets) done.6 ∙ sym (append-nil s.sink.packets);
  packets = sym (ap packets_counted done.0);
}

sends_of_first : (samples : List Sample) (step : Step) (later : List Step) → sends_in samples (step ∷ later) ≡ sends_in samples (step ∷ []) + sends_in samples later
sends_of_first samples (steps.Send i mtu) later = omega arith
sends_of_first samples (steps.Push k) later = omega arith
sends_of_first samples steps.Pop later = omega arith

pops_of_first : (step : Step) (later : List Step) → pops_in (step ∷ later) ≡ pops_in (step ∷ []) + pops_in later
pops_of_first (steps.Send i mtu) later = omega arith
pops_of_first (steps.Push k) later = omega arith
pops_of_first steps.Pop later = omega arith

-- the remaining steps count after one
counts_on : (samples : List Sample) (step : Step) (later : List Step) (s mid t : RunState) (sends send sends_later : List Sent) (pops pop pops_later : List Answer)
    → sends ≡ send ++ sends_later → pops ≡ pop ++ pops_later
    → StepCounts samples step s send pop mid → IsCounted samples later mid sends_later pops_later t → IsCounted samples (step ∷ later) s sends pops t
counts_on samples step later s mid t sends send sends_later pops pop pops_later all_sends all_pops here rest = record {
  entries = ap length all_sends ∙ length-append send sends_later ∙ omega (arith, here.entries, rest.entries) ∙ sym (sends_of_first samples step later);
  answers = ap length all_pops ∙ length-append pop pops_later ∙ omega (arith, here.answers, rest.answers) ∙ sym (pops_of_first step later);
  gained = here.gained ++ rest.gained;
  sink = rest.sink ∙ ap (λ (ps : List Packet). ps ++ rest.gained) here.sink ∙ append_assoc s.sink.packets here.gained rest.gained;
  packets = length-append here.gained rest.gained ∙ omega (arith, here.packets, rest.packets) ∙ sym (ap packets_counted all_sends ∙ counted_append send sends_later);
}

pub run_counts : (samples : List Sample) (place : ℕ) (all_steps : List Step) (s : RunState) (sends : List Sent) (pops : List Answer) (t : RunState)
    → Runs samples place all_steps s sends pops t → IsCounted samples all_steps s sends pops t
run_counts samples place [] s sends pops t run = nothing_counted samples [] s t sends pops run.0 run.1 (ap (λ (x : RunState). x.sink.packets) run.2) refl refl
run_counts samples place (step ∷ later) s sends pops t run =
    counts_on samples step later s run.4 t sends run.0 run.1 pops run.2 run.3 run.5 run.6 (step_counts samples place step s run.0 run.2 run.4 run.7)
    (run_counts samples (place + 1) later run.4 run.1 run.3 t run.8)

-- the same with RED
red_step_counts : (w : Protection) (samples : List Sample) (place : ℕ) (step : Step) (s : RedState) (sends : List Sent) (pops : List Answer) (t : RedState)
    → DoesRedStep w samples place step s sends pops t → StepCounts samples step s.plain sends pops t.plain
red_step_counts w samples place (steps.Send i mtu) s sends pops t done = step_counts samples place (steps.Send i mtu) s.plain sends pops t.plain done.0
red_step_counts w samples place (steps.Push k) s sends pops t done = nothing_counted samples (steps.Push k ∷ []) s.plain t.plain sends pops done.0 done.1
    (ap (λ (x : RedState). x.plain.sink.packets) done.4) refl refl
red_step_counts w samples place steps.Pop s sends pops t done = step_counts samples place steps.Pop s.plain sends pops t.plain done.0

pub red_counts : (w : Protection) (samples : List Sample) (place : ℕ) (all_steps : List Step) (s : RedState) (sends : List Sent) (pops : List Answer) (t : RedState)
    → RunsInRed w samples place all_steps s sends pops t
    → IsCounted samples all_steps s.plain sends pops t.plain
red_counts w samples place [] s sends pops t run = nothing_counted samples [] s.plain t.plain sends pops run.0 run.1 (ap (λ (x : RedState). x.plain.sink.packets) run.2) refl refl
red_counts w samples place (step ∷ later) s sends pops t run =
    counts_on samples step later s.plain run.4.plain t.plain sends run.0 run.1 pops run.2 run.3 run.5 run.6 (red_step_counts w samples place step s run.0 run.2 run.4 run.7)
    (red_counts w samples (place + 1) later run.4 run.1 run.3 t run.8)
