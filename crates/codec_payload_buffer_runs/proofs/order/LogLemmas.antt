-- Every run has a log.
use Rattle.std.proofs.Common.{◌≡◌, ◌∙◌, refl, sym, ap, ℕ, subst, List, [], Option, Some, None, true, false, cond, ltb, ◌++◌, ◌+◌, ◌∷◌, ◌<◌, ◌≤◌, inl, inr, arith, length, map, take, append_assoc}
use Rattle.std.specs.Prelude.{slice_get, MatchOption}
use Rattle.std.proofs.lemmas.Bool.Decides.{nat_tests}
use Rattle.std.proofs.lemmas.List.{take_at}
use Rattle.codec_payload_buffer_runs.proofs.order.EntryLemmas.{entry_of, entry_made, made_from}
use Rattle.codec_payload_buffer.proofs.MemberLemmas.{IsIn, in_append}
use Rattle.codec_payload_buffer_runs.proofs.order.SafetyLemmas.{send_keeps}
use Rattle.codec_payload_buffer_runs.proofs.units.StreamLemmas.{streams}
use Rattle.codec_payload_buffer_runs.specs.Log.{Stretch, Turn, begun, with_pushes, packet_named, held_of, IsLogBy}
use Rattle.codec_payload_payloader.specs.Packets.{Packet}
use Rattle.codec_payload_buffer_runs.specs.RunCounts.{sent_before}
use Rattle.codec_payload_buffer_runs.proofs.units.BuiltInRuns.{Pushing, Runs, DoesStep, SendsIt, after_push, plainly}
use Rattle.codec_payload_buffer_runs.specs.Schedule.{Answer, RunState}
use Rattle.codec_payload_payloader.specs.Sending.{Sample}
use Rattle.codec_payload_buffer_runs.specs.SentStream.{packets_of}
use Rattle.codec_payload_codec.specs.Depacketizers.{DepacketizerState}
use Rattle.codec_payload_buffer.specs.Held.{Held}
use Rattle.codec_payload_buffer.specs.Steps.{State, PopsOver}
use Rattle.codec_payload_buffer.specs.Stretches.{after_pushes}
use Rattle.codec_payload_buffer_runs.specs.declared.run.Sent.{Sent}
use Rattle.codec_payload_buffer_runs.specs.declared.run.Step.{Step}
use Rattle.codec_payload_buffer_runs.specs.declared.run.Step.TheVariants as steps

abbrev counted : ℕ → Sent → ℕ
counted place entry = cond (ltb entry.step place) entry.count 0

before_append : (place : ℕ) (xs ys : List Sent) → sent_before place (xs ++ ys) ≡ sent_before place xs + sent_before place ys
before_append place [] ys = omega arith
before_append place (x ∷ xs) ys =
    let rest = before_append place xs ys in
    let assoc : counted place x + (sent_before place xs + sent_before place ys) ≡ counted place x + sent_before place xs + sent_before place ys = omega arith in
    ap (λ (n : ℕ). counted place x + n) rest ∙ assoc

-- entries to come count nothing
none_before : (place : ℕ) (xs : List Sent) → ((entry : Sent) → IsIn entry xs → place ≤ entry.step) → sent_before place xs ≡ 0
none_before place [] later = refl
none_before place (x ∷ xs) later =
    let here : counted place x ≡ 0 = let l = later x (inl refl) in let e : ltb x.step place ≡ false = grind (arith, nat_tests, l) in ap (λ b. cond b x.count 0) e in
    let rest = none_before place xs (λ entry is. later entry (inr is)) in
    omega (arith, here, rest)

-- the entry of a step counts the packets that the sink gained
gains : (samples : List Sample) (place i mtu : ℕ) (s mid : RunState) (sends : List Sent) (pops : List Answer) → DoesStep plainly samples place (steps.Send i mtu) s sends pops mid
    → (n : ℕ) → place < n → length s.sink.packets + sent_before n sends ≡ length mid.sink.packets
gains samples place i mtu s mid sends pops step n l = at (slice_get samples i) step.1
  where
    at : (o : Option Sample) → MatchOption o ((sends ≡ []) × (mid ≡ s)) (λ sample. (entry : Sent) × (sends ≡ entry ∷ []) × SendsIt place mtu sample s entry mid)
        → length s.sink.packets + sent_before n sends ≡ length mid.sink.packets
    at None step = omega (arith, ap (sent_before n) step.0, ap (λ (x : RunState). length x.sink.packets) step.1)
    at (Some sample) step =
        let entry = entry_of place mtu sample s mid step.0 step.2 in
        let first : step.0.first ≡ length s.sink.packets = ap (λ (x : Sent). x.first) step.2.entry_is in
        let test : ltb step.0.step n ≡ true = let e = entry.at in grind (arith, nat_tests, e, l) in
        let count : sent_before n (step.0 ∷ []) ≡ step.0.count + 0 = ap (λ b. cond b step.0.count 0 + 0) test in
        omega (arith, ap (sent_before n) step.1, count, first, entry.reach)

take_front : (xs more : List Packet) (n : ℕ) → n ≡ length xs → take n (xs ++ more) ≡ xs
take_front xs more n e = take_at xs more n (sym e)

-- the packets of an entry were sent before each step after its own
pub entry_before : (pushing : Pushing) (samples : List Sample) (place : ℕ) (later : List Step) (s t : RunState) (sends : List Sent) (pops : List Answer)
    → Runs pushing samples place later s sends pops t
    → (entry : Sent) → IsIn entry sends → (n : ℕ) → entry.step < n → entry.first + entry.count ≤ length s.sink.packets + sent_before n sends
entry_before pushing samples place [] s t sends pops run entry is n l = absurd (subst (IsIn entry) run.0 is)
entry_before pushing samples place (steps.Send i mtu ∷ later) s t sends pops run entry is n l =
    let split : sent_before n sends ≡ sent_before n run.0 + sent_before n run.1 = ap (sent_before n) run.5 ∙ before_append n run.0 run.1 in
    elim (in_append entry run.0 run.1 (subst (IsIn entry) run.5 is)) [
      | inl here ↦
          let made = entry_made samples place i mtu s run.4 run.0 run.2 entry run.7 here in
          omega (arith, split, made.reach, gains samples place i mtu s run.4 run.0 run.2 run.7 n (omega (arith, made.at, l)))
      | inr there ↦
          let after = made_from pushing samples (place + 1) later run.4 t run.1 run.3 entry run.8 there in
          omega (
            arith,
            split,
            entry_before pushing samples (place + 1) later run.4 t run.1 run.3 run.8 entry there n l,
            gains samples place i mtu s run.4 run.0 run.2 run.7 n (omega (arith, after, l)),
          )
    ]
entry_before pushing samples place (steps.Push k ∷ later) s t sends pops run entry is n l =
    let same : sends ≡ run.1 = run.5 ∙ ap (λ (es : List Sent). es ++ run.1) run.7.0 in
    omega (
      arith,
      entry_before pushing samples (place + 1) later run.4 t run.1 run.3 run.8 entry (subst (IsIn entry) same is) n l,
      ap (sent_before n) same,
      ap (λ (x : RunState). length x.sink.packets) run.7.2,
    )
entry_before pushing samples place (steps.Pop ∷ later) s t sends pops run entry is n l =
    let same : sends ≡ run.1 = run.5 ∙ ap (λ (es : List Sent). es ++ run.1) run.7.0 in
    omega (
      arith,
      entry_before pushing samples (place + 1) later run.4 t run.1 run.3 run.8 entry (subst (IsIn entry) same is) n l,
      ap (sent_before n) same,
      ap (λ (x : RunState). length x.sink.packets) run.7.6,
    )

-- the steps that are left have their part of the log
pub record Logs (named : ℕ → ℕ → DepacketizerState → List Held) (place : ℕ) (later : List Step) (w : Stretch) (pops : List Answer) (after : State) : Type 0 where
  pub turns : List Turn
  pub end : Stretch
  pub is_log : IsLogBy named place later w turns end
  pub answers : map (λ (turn : Turn). turn.answer) turns ≡ pops
  pub left : end.now ≡ after

-- if the sink holds the packets sent before the step, a push of the named packets has the effect of the step
abbrev pub DoesAsNamed : Pushing → (ℕ → ℕ → DepacketizerState → List Held) → List Packet → ℕ → List Sent → Type 0
DoesAsNamed pushing named packets clock_rate all =
    (place k : ℕ) (s : RunState) → take (sent_before place all) packets ≡ s.sink.packets → s.payloading.clock_rate ≡ clock_rate
    → after_pushes s.buffer (named place k s.buffer.depacketizer) ≡ pushing place k s

module _ (pushing : Pushing) (named : ℕ → ℕ → DepacketizerState → List Held) (packets : List Packet) (clock_rate : ℕ) (all : List Sent) (samples : List Sample)
    (does : DoesAsNamed pushing named packets clock_rate all) where
  -- the packets sent before a place are in the sink there
  sent_by : (place : ℕ) (later : List Step) (s t : RunState) (sends before : List Sent) (pops : List Answer) → Runs pushing samples place later s sends pops t
      → t.sink.packets ≡ packets → all ≡ before ++ sends
      → ((n : ℕ) → place ≤ n → sent_before n before ≡ length s.sink.packets) → take (sent_before place all) packets ≡ s.sink.packets
  sent_by place later s t sends before pops run whole entries sent =
      let stream = streams pushing samples place later s t sends pops run in
      let count : sent_before place all ≡ length s.sink.packets =
      omega (
        arith,
        ap (sent_before place) entries,
        before_append place before sends,
        sent place (omega arith),
        none_before place sends (λ entry is. made_from pushing samples place later s t sends pops entry run is),
      ) in
      ap (take (sent_before place all)) (sym whole ∙ stream.gained) ∙ take_front s.sink.packets (packets_of stream.units) (sent_before place all) count

  pub log_from : (later : List Step) (place : ℕ) (s t : RunState) (sends before : List Sent) (pops : List Answer) (w : Stretch)
      → Runs pushing samples place later s sends pops t → t.sink.packets ≡ packets → s.payloading.clock_rate ≡ clock_rate → all ≡ before ++ sends
      → ((n : ℕ) → place ≤ n → sent_before n before ≡ length s.sink.packets) → w.now ≡ s.buffer → Logs named place later w pops t.buffer
  log_from [] place s t sends before pops w run whole clock entries sent now = record {
    turns = [];
    end = w;
    is_log = refl;
    answers = sym run.1;
    left = now
        ∙ ap (λ (x : RunState). x.buffer) (sym run.2);
  }
  log_from (steps.Send i mtu ∷ later) place s t sends before pops w run whole clock entries sent now =
      let mid = run.4 in
      let kept = send_keeps samples place i mtu s mid run.0 run.2 run.7 in
      let rest = log_from later (place + 1) mid t run.1 (before ++ run.0) run.3 w run.8 whole (kept.1 ∙ clock)
      (entries ∙ ap (λ (es : List Sent). before ++ es) run.5 ∙ sym (append_assoc before run.0 run.1))
      (λ n l. before_append n before run.0 ∙ omega (arith, sent n (omega (arith, l)), gains samples place i mtu s mid run.0 run.2 run.7 n (omega (arith, l))))
      (now ∙ sym kept.0) in
      record { turns = rest.turns; end = rest.end; is_log = rest.is_log; answers = rest.answers ∙ sym (run.6 ∙ ap (λ (ps : List Answer). ps ++ run.3) run.7.0); left = rest.left }
  log_from (steps.Push k ∷ later) place s t sends before pops w run whole clock entries sent now =
      let mid = run.4 in
      let taken = sent_by place (steps.Push k ∷ later) s t sends before pops run whole entries sent in
      let sink : mid.sink ≡ s.sink = ap (λ (x : RunState). x.sink) run.7.2 in
      let rest = log_from later (place + 1) mid t run.1 (before ++ run.0) run.3 (with_pushes w (named place k w.now.depacketizer)) run.8 whole
      (ap (λ (x : RunState). x.payloading.clock_rate) run.7.2 ∙ clock)
      (entries ∙ ap (λ (es : List Sent). before ++ es) run.5 ∙ sym (append_assoc before run.0 run.1))
      (λ n l. before_append n before run.0 ∙ omega (arith, sent n (omega (arith, l)), ap (sent_before n) run.7.0, ap (λ x. length x.packets) sink))
      (ap (λ (b : State). after_pushes b (named place k b.depacketizer)) now ∙ does place k s taken clock ∙ sym (ap (λ (x : RunState). x.buffer) run.7.2)) in
      record { turns = rest.turns; end = rest.end; is_log = rest.is_log; answers = rest.answers ∙ sym (run.6 ∙ ap (λ (ps : List Answer). ps ++ run.3) run.7.1); left = rest.left }
  log_from (steps.Pop ∷ later) place s t sends before pops w run whole clock entries sent now =
      let mid = run.4 in
      let sink : mid.sink ≡ s.sink = ap (λ (x : RunState). x.sink) run.7.6 in
      let turn : Turn = record { stretch = w; passed = run.7.5.0; answer = run.7.1; after = run.7.2 } in
      let rest = log_from later (place + 1) mid t run.1 (before ++ run.0) run.3 (begun run.7.2) run.8 whole (ap (λ (x : RunState). x.payloading.clock_rate) run.7.6 ∙ clock)
      (entries ∙ ap (λ (es : List Sent). before ++ es) run.5 ∙ sym (append_assoc before run.0 run.1))
      (λ n l. before_append n before run.0 ∙ omega (arith, sent n (omega (arith, l)), ap (sent_before n) run.7.0, ap (λ x. length x.packets) sink))
      (sym (ap (λ (x : RunState). x.buffer) run.7.6)) in
      record {
        turns = turn ∷ rest.turns;
        end = rest.end;
        is_log = (refl, subst (λ (b : State). PopsOver b run.7.5.0 run.7.1 run.7.2) (sym now) run.7.5.1, run.7.4, rest.is_log);
        answers = ap (λ (as' : List Answer). run.7.1 ∷ as') rest.answers ∙ sym (run.6 ∙ ap (λ (ps : List Answer). ps ++ run.3) run.7.3);
        left = rest.left;
      }

-- a packet that is pushed as it is
plain_is : (place clock_rate : ℕ) (o : Option Packet) (s : State) → after_pushes s (held_of place clock_rate o s.depacketizer) ≡ after_push place clock_rate o s
plain_is place clock_rate None s = refl
plain_is place clock_rate (Some p) s = refl

pub plain_as_named : (packets : List Packet) (clock_rate : ℕ) (all : List Sent) → DoesAsNamed plainly (λ place k. held_of place clock_rate (packet_named packets all place k)) packets clock_rate all
plain_as_named packets clock_rate all place k s taken clock =
    ap (λ (ps : List Packet). after_pushes s.buffer (held_of place clock_rate (slice_get ps k) s.buffer.depacketizer)) taken
    ∙ plain_is place clock_rate (slice_get s.sink.packets k) s.buffer
    ∙ ap (λ (rate : ℕ). after_push place rate (slice_get s.sink.packets k) s.buffer) (sym clock)
