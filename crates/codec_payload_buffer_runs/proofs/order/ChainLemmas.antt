-- If all packets are pushed before the first pop of a chain, its pops return each unit in order, whole, and then always None.
use Rattle.std.proofs.Common.{◌≡◌, ◌≢◌, ◌∙◌, refl, sym, ap, ℕ, subst, List, [], Some, None, Ok, Err, true, ◌++◌, ◌+◌, ◌∷◌, ◌<◌, ◌≤◌, ◌⊎◌, inl, inr, eqb, arith, drop}
use Rattle.std.specs.Prelude.{slice_get}
use Rattle.std.proofs.lemmas.Bool.{cases_lt}
use Rattle.std.proofs.lemmas.Bool.Decides.{nat_tests}
use Rattle.std.proofs.lemmas.Option.{slice_get_within}
use Rattle.codec_payload_base.specs.declared.error.PacketError.TheVariants as faults
use Rattle.codec_payload_buffer_runs.proofs.order.ExactLemmas.{MayGo, IsExactly, dropped, pop_answers}
use Rattle.codec_payload_buffer_runs.proofs.order.FillLemmas.{IsFilling, filled, full_row}
use Rattle.codec_payload_buffer_runs.proofs.order.SafetyLemmas.{number_of_sent}
use Rattle.codec_payload_buffer_runs.proofs.order.TurnLemmas.{Setting, ArePushes, count, IsPop, waits, releases, Chain, answers_of, or_cases}
use Rattle.codec_payload_buffer_runs.proofs.units.UnitRows.{drop_next}
use Rattle.codec_payload_codec.specs.Depacketizers.{DepacketizerState}
use Rattle.codec_payload_buffer.specs.Held.{Held, number_of, has_number}
use Rattle.codec_payload_buffer.specs.Steps.{State, pushed, is_dropped, Pops}
use Rattle.codec_payload_buffer.specs.Stretches.{after_pushes}
use Rattle.codec_payload_buffer.specs.declared.buffer.frames.CompleteFrame.{CompleteFrame}
use Rattle.codec_payload_buffer_runs.specs.Exact.{AnswersAll}
use Rattle.codec_payload_buffer_runs.specs.Log.{Stretch, Turn, with_pushes, IsLogBy}
use Rattle.codec_payload_payloader.specs.Packets.{AreNumbered}
use Rattle.codec_payload_buffer_runs.specs.Schedule.{Answer}
use Rattle.codec_payload_buffer_runs.specs.SentStream.{SentUnit, packets_of}
use Rattle.codec_payload_buffer_runs.specs.declared.run.Step.{Step}
use Rattle.codec_payload_buffer_runs.specs.declared.run.Step.TheVariants as steps

has_more : (n : ℕ) (xs ys : List Held) → (has_number n xs ≡ true) ⊎ (has_number n ys ≡ true) → has_number n (xs ++ ys) ≡ true
has_more n [] ys (inl h) = absurd (cc)
has_more n [] ys (inr h) = h
has_more n (x ∷ xs) ys (inl h) = elim (or_cases (eqb (number_of x) n) (has_number n xs) h) [
  | inl here ↦ rw here refl
  | inr later ↦ let rest = has_more n xs ys (inl later) in grind (arith, rest)
]
has_more n (x ∷ xs) ys (inr h) = let rest = has_more n xs ys (inr h) in grind (arith, rest)

-- before the first of these pops, the packet with this number was pushed, if there is a pop
abbrev pub PushesBefore : ℕ → List Turn → Type 0
PushesBefore n [] = Unit {0}
PushesBefore n (turn ∷ turns) = has_number n turn.stretch.pushes ≡ true

-- so has a step before the first pop that names it
module _ (all_steps : List Step) (named : ℕ → ℕ → DepacketizerState → List Held) (at k n : ℕ) (pushes : slice_get all_steps at ≡ Some (steps.Push k))
    (before_pops : (other : ℕ) → other < at → slice_get all_steps other ≢ Some steps.Pop)
    (has : (d : DepacketizerState) → has_number n (named at k d) ≡ true) where
  pub pushed_before : (later : List Step) (place : ℕ) (w : Stretch) (turns : List Turn) (end : Stretch) → drop place all_steps ≡ later → IsLogBy named place later w turns end
      → (place ≤ at) ⊎ (has_number n w.pushes ≡ true) → PushesBefore n turns
  pushed_before [] place w [] end here log or = tt
  pushed_before [] place w (turn ∷ turns) end here log or = absurd log
  pushed_before (steps.Send i mtu ∷ later) place w turns end here log or =
      let next = drop_next all_steps place (steps.Send i mtu) later here in
      pushed_before later (place + 1) w turns end next.1 log (elim or [
        | inl le ↦ elim (cases_lt place at) [
          | inl lt ↦ inl (omega (arith, lt))
          | inr ge ↦
              let same : at ≡ place = omega (arith, ge, le) in
              let push : slice_get all_steps place ≡ Some (steps.Push k) = subst (λ (m : ℕ). slice_get all_steps m ≡ Some (steps.Push k)) same pushes in
              let send = next.0 in
              absurd (cc)
        ]
        | inr h ↦ inr h
      ])
  pushed_before (steps.Push j ∷ later) place w turns end here log or =
      let next = drop_next all_steps place (steps.Push j) later here in
      let ps = named place j w.now.depacketizer in
      pushed_before later (place + 1) (with_pushes w ps) turns end next.1 log (elim or [
        | inl le ↦ elim (cases_lt place at) [
          | inl lt ↦ inl (omega (arith, lt))
          | inr ge ↦
              let same : at ≡ place = omega (arith, ge, le) in
              let push : slice_get all_steps place ≡ Some (steps.Push k) = subst (λ (m : ℕ). slice_get all_steps m ≡ Some (steps.Push k)) same pushes in
              let send = next.0 in
              let index : k ≡ j = cc in
              inr (has_more n w.pushes ps (inr (subst (λ (m : ℕ). has_number n (named m j w.now.depacketizer) ≡ true) same
              (subst (λ (i : ℕ). has_number n (named at i w.now.depacketizer) ≡ true) index (has w.now.depacketizer)))))
        ]
        | inr h ↦ inr (has_more n w.pushes ps (inl h))
      ])
  pushed_before (steps.Pop ∷ later) place w [] end here log or = absurd log
  pushed_before (steps.Pop ∷ later) place w (turn ∷ turns) end here log or =
      let next = drop_next all_steps place steps.Pop later here in
      subst (λ (x : Stretch). has_number n x.pushes ≡ true) (sym log.0) (elim or [
        | inl le ↦ elim (cases_lt place at) [
          | inl lt ↦ absurd (before_pops place lt next.0)
          | inr ge ↦
              let same : at ≡ place = omega (arith, ge, le) in
              let push : slice_get all_steps place ≡ Some (steps.Push k) = subst (λ (m : ℕ). slice_get all_steps m ≡ Some (steps.Push k)) same pushes in
              let pop = next.0 in
              absurd (cc)
        ]
        | inr h ↦ h
      ])

module _ (c : Setting) where
  abbrev pub Filling : State → State → Type 0
  Filling start s = IsFilling c.known c.clock_rate c.first c.kind c.faithful c.splits c.units c.lawful c.numbered start s

  abbrev pub Exactly : ℕ → List SentUnit → State → Type 0
  Exactly k rest s = IsExactly c.known c.clock_rate c.first c.kind c.faithful c.splits c.units k rest s

  -- pushes while an unused buffer is filled
  record AllFilled (start s : State) (ps : List Held) (t : State) : Type 0 where
    filling : Filling start t
    has : (n : ℕ) → has_number n ps ≡ true → has_number n t.held ≡ true
    still : (n : ℕ) → has_number n s.held ≡ true → has_number n t.held ≡ true

  all_filled : (start s : State) (ps : List Held) → ArePushes c ps → Filling start s → AllFilled start s ps (after_pushes s ps)
  all_filled start s [] sent filling = record { filling = filling; has = λ n h. absurd (cc); still = λ n h. h }
  all_filled start s (p ∷ ps) sent filling =
      let one = filled c.known c.clock_rate c.first c.kind c.faithful c.splits c.units c.lawful c.numbered start s p sent.0 filling in
      let rest = all_filled start (pushed s p) ps sent.1 one.filling in
      record {
        filling = rest.filling;
        has = λ n h. elim (or_cases (eqb (number_of p) n) (has_number n ps) h) [
          | inl here ↦ let same : number_of p ≡ n = grind (arith, nat_tests, here) in rest.still n (subst (λ (m : ℕ). has_number m (pushed s p).held ≡ true) same one.has)
          | inr later ↦ rest.has n later
        ];
        still = λ n h. rest.still n (one.still n h);
      }

  -- the range is full at the first pop
  pub full_at_pop : (start s : State) → Filling start s → MayGo c.units start.depacketizer start.contiguity → ((k : ℕ) → k < count c → has_number (c.first + k) s.held ≡ true) → Exactly 0 c.units s
  full_at_pop start s filling may there = record {
    row = full_row c.known c.clock_rate c.first c.kind c.faithful c.splits c.units c.lawful c.numbered start s filling there;
    rises = filling.beyond.rises;
    next = rw filling.no_cutoff (omega arith);
    count = omega arith;
    lawful = c.lawful;
    numbered = let z : c.first ≡ c.first + 0 = omega arith in subst (λ (n : ℕ). AreNumbered n (packets_of c.units)) z c.numbered;
    one_time = c.one_time;
    reads = filling.beyond.reads;
    may_go = subst (MayGo c.units s.depacketizer) (sym filling.contiguity) (subst (λ (d : DepacketizerState). MayGo c.units d start.contiguity) (sym filling.depacketizer) may);
  }

  -- from then on each push is dropped
  all_dropped : (k : ℕ) (rest : List SentUnit) (s : State) (ps : List Held) → ArePushes c ps → Exactly k rest s → after_pushes s ps ≡ s
  all_dropped k rest s [] sent exactly = refl
  all_dropped k rest s (p ∷ ps) sent exactly =
      let i = sent.0 in
      let number = number_of_sent c.known c.clock_rate c.first c.kind c.faithful c.splits c.units c.lawful c.numbered p i in
      let drop : is_dropped s (number_of p) ≡ true =
      subst (λ (n : ℕ). is_dropped s n ≡ true) (sym number) (dropped c.known c.clock_rate c.first c.kind c.faithful c.splits c.units k i.0 rest s exactly
      (slice_get_within (packets_of c.units) i.0 i.1 i.2)) in
      rw drop (all_dropped k rest s ps sent.1 exactly)

  is_pop : (s t : State) (over : List CompleteFrame) (a : Answer) → IsPop c s t over a → Pops s a t × (a ≢ Some (Err faults.OutOfMemory))
  is_pop s t over None (waits passes nothing) = ((over, (passes, nothing)), λ e. cc)
  is_pop s t over (Some (Ok r)) (releases mid passes out) = ((over, (mid, passes, out)), λ e. cc)
  is_pop s t over (Some (Err fault)) pop = elim pop [ ]

  answers_on : (k : ℕ) (rest : List SentUnit) (s : State) (turns : List Turn) (end : Stretch) → Exactly k rest s → Chain c s turns end → AnswersAll c.known k rest (answers_of turns)
  answers_on k rest s [] end exactly chain = tt
  answers_on k rest s (turn ∷ turns) end exactly chain =
      let here : turn.stretch.now ≡ s = chain.1.now ∙ ap (λ (x : State). after_pushes x turn.stretch.pushes) chain.0 ∙ all_dropped k rest s turn.stretch.pushes chain.1.sent exactly in
      let pop = is_pop turn.stretch.now turn.after turn.passed turn.answer chain.2 in
      pop_answers c.known c.clock_rate c.first c.kind c.faithful c.splits c.units k rest turn.stretch.now turn.after turn.answer (answers_of turns)
      (subst (Exactly k rest) (sym here) exactly) pop.1 pop.0 (λ n left there. answers_on n left turn.after turns end there chain.3)

  -- all units, whole
  pub answers_all : (start : State) (turns : List Turn) (end : Stretch) → Filling start start → MayGo c.units start.depacketizer start.contiguity → Chain c start turns end
      → ((k : ℕ) → k < count c → PushesBefore (c.first + k) turns) → AnswersAll c.known 0 c.units (answers_of turns)
  answers_all start [] end filling may chain before = tt
  answers_all start (turn ∷ turns) end filling may chain before =
      let out = all_filled start start turn.stretch.pushes chain.1.sent filling in
      let here : turn.stretch.now ≡ after_pushes start turn.stretch.pushes = chain.1.now ∙ ap (λ (x : State). after_pushes x turn.stretch.pushes) chain.0 in
      let full = full_at_pop start (after_pushes start turn.stretch.pushes) out.filling may (λ k l. out.has (c.first + k) (before k l)) in
      let pop = is_pop turn.stretch.now turn.after turn.passed turn.answer chain.2 in
      pop_answers c.known c.clock_rate c.first c.kind c.faithful c.splits c.units 0 c.units turn.stretch.now turn.after turn.answer (answers_of turns)
      (subst (Exactly 0 c.units) (sym here) full) pop.1 pop.0 (λ n left there. answers_on n left turn.after turns end there chain.3)
