-- A frame is skipped only after a long series of units that no pop accepted.
use Rattle.std.proofs.Common.{◌≡◌, refl, sym, ℕ, zero, suc, subst, List, [], Some, None, Ok, Err, true, false, Bool, ◌+◌, ◌∷◌, ◌<◌, ◌≤◌, ◌⊎◌, inl, inr, arith, take}
use Rattle.std.proofs.lemmas.Bool.{cases_lt}
use Rattle.std.proofs.lemmas.List.{length-append}
use Rattle.codec_payload_buffer_runs.proofs.order.ContiguousLemmas.{numbers_of}
use Rattle.codec_payload_buffer.proofs.PopLemmas.{order_due}
use Rattle.codec_payload_buffer_runs.proofs.order.SafetyLemmas.{beyond_without, given, released_at}
use Rattle.codec_payload_buffer_runs.proofs.order.TakenLemmas.{Follows, goes_on}
use Rattle.codec_payload_buffer_runs.proofs.order.TurnLemmas.{Setting, Beyond, frame_due, IsSpan, IsPop, waits, releases, Chain, IsReady, span_left, span_ready, left_ready, few_popped}
use Rattle.codec_payload_codec.specs.Depacketizers.{DepacketizerState}
use Rattle.codec_payload_buffer_runs.specs.Headline.{packets_before}
use Rattle.codec_payload_buffer_runs.specs.Log.{Stretch, Turn}
use Rattle.codec_payload_metadata.specs.Release.{Release}
use Rattle.codec_payload_buffer_runs.specs.RunUnits.{NonePassedOver, AllEnd, AnswerEnds, AllTakenEnd, EndsOutside, AllStartFrom, AllPassedFrom, IsGap}
use Rattle.codec_payload_buffer_runs.specs.Schedule.{Answer}
use Rattle.codec_payload_buffer_runs.specs.SentStream.{SentUnit, packets_of}
use Rattle.codec_payload_buffer.specs.Steps.{State, due_of, follows, Passes, none, one_more, PassesOver, Releases}
use Rattle.codec_payload_buffer.specs.declared.buffer.frames.CompleteFrame.{CompleteFrame}

before_more : (units : List SentUnit) (a b : ℕ) → a ≤ b → packets_before a units ≤ packets_before b units
before_more units zero b l = omega arith
before_more [] (suc a) b l = omega arith
before_more (u ∷ us) (suc a) zero l = absurd (omega (arith, l))
before_more (u ∷ us) (suc a) (suc b) l = omega (arith, before_more us a b (omega (arith, l)), length-append u.packets (packets_of (take a us)), length-append u.packets (packets_of (take b us)))

not_passed : (may : Bool) → may ≡ true → may ≡ false → ⊥
not_passed may go stay = cc

module _ (c : Setting) where
  abbrev pub start_of : ℕ → ℕ
  start_of n = c.first + packets_before n c.units

  abbrev pub Outside : ℕ → ℕ → Type 0
  Outside n e = EndsOutside c.first c.units n e

  abbrev pub Taken : ℕ → State → Type 0
  Taken n s = Follows c n s.depacketizer s.contiguity

  start_more : (a b : ℕ) → a ≤ b → start_of a ≤ start_of b
  start_more a b l = omega (arith, before_more c.units a b l)

  -- the frame that is due, at its place: its start and its end
  frame_starts : (n m : ℕ) (s : State) (f : CompleteFrame) (beyond : Beyond c n s) (due : due_of s ≡ Some f) → m ≤ (frame_due c n s f beyond due).place → start_of m ≤ f.first
  frame_starts n m s f beyond due l = let frame = frame_due c n s f beyond due in omega (arith, frame.start, start_more m frame.place l)

  frame_ends : (n m : ℕ) (s : State) (f : CompleteFrame) (beyond : Beyond c n s) (due : due_of s ≡ Some f) → (frame_due c n s f beyond due).place < m → f.last < start_of m
  frame_ends n m s f beyond due l = let frame = frame_due c n s f beyond due in omega (arith, frame.stop, start_more (frame.place + 1) m (omega (arith, l)))

  far_outside : (n m : ℕ) (s : State) (f : CompleteFrame) (beyond : Beyond c n s) (due : due_of s ≡ Some f) → m + 16384 ≤ (frame_due c n s f beyond due).place → Outside m f.last
  far_outside n m s f beyond due l = inr (omega (arith, frame_starts n (m + 16384) s f beyond due l, order_due s f due))

  -- the packets beyond a skipped frame
  over_beyond : (n : ℕ) (s t : State) (beyond : Beyond c n s) (p : PassesOver s t) → Beyond c ((frame_due c n s p.frame beyond p.is_due).place + 1) t
  over_beyond n s t beyond p =
      let frame = frame_due c n s p.frame beyond p.is_due in
      let reads = (given c.known c.clock_rate c.first c.kind c.faithful c.splits c.units c.lawful c.numbered n s p.frame beyond p.is_due (Ok p.unpacked) p.depacketizer p.gives).0 in
      subst (Beyond c (frame.place + 1)) (sym p.left) (beyond_without c.known c.clock_rate c.first c.kind c.faithful c.splits c.units c.lawful c.numbered n s p.frame
      beyond p.is_due (frame.place + 1) (omega (arith, frame.stop)) p.depacketizer reads _ s.evicted)

  released_beyond : (n : ℕ) (s t : State) (r : Release) (beyond : Beyond c n s) (out : Releases s r t) → Beyond c ((frame_due c n s out.frame beyond out.is_due).place + 1) t
  released_beyond n s t r beyond out = (released_at c.known c.clock_rate c.first c.kind c.faithful c.splits c.units c.lawful c.numbered n s t r beyond out).2

  release_ends : (n : ℕ) (s t : State) (r : Release) (beyond : Beyond c n s) (out : Releases s r t) (P : ℕ → Type 0) → P out.frame.last → AnswerEnds P (Some (Ok r))
  release_ends n s t r beyond out P is = subst P (sym (numbers_of s t r beyond.rises beyond.beyond out).last) is

  -- frames that are skipped after the gap from place g on
  record IsPast (g : ℕ) (over : List CompleteFrame) (t : State) : Type 0 where
    next : ℕ
    far : g + 16384 ≤ next
    beyond : Beyond c next t
    ends : AllEnd (Outside g) over
    starts : AllStartFrom (start_of (g + 16384)) over

  past_one : (g n : ℕ) (s t : State) (over : List CompleteFrame) (beyond : Beyond c n s) → AllEnd (Outside g) over → AllStartFrom (start_of (g + 16384)) over
      → (p : PassesOver s t) → g + 16384 ≤ (frame_due c n s p.frame beyond p.is_due).place → IsPast g (p.frame ∷ over) t
  past_one g n s t over beyond ends starts p far =
      let frame = frame_due c n s p.frame beyond p.is_due in
      record {
        next = frame.place + 1;
        far = omega (arith, far);
        beyond = over_beyond n s t beyond p;
        ends = (far_outside n g s p.frame beyond p.is_due far, ends);
        starts = (frame_starts n (g + 16384) s p.frame beyond p.is_due far, starts);
      }

  past_passes : (g n : ℕ) (s t : State) (over : List CompleteFrame) → Beyond c n s → g + 16384 ≤ n → Passes s over t → IsPast g over t
  past_passes g n s t over beyond far none = record { next = n; far = far; beyond = beyond; ends = tt; starts = tt }
  past_passes g n s u over beyond far (one_more {t = t} passes p) =
      let is = past_passes g n s t _ beyond far passes in
      let frame = frame_due c is.next t p.frame is.beyond p.is_due in
      past_one g is.next t u _ is.beyond is.ends is.starts p (omega (arith, is.far, frame.not_before))

  -- from the unit after place n, the last accepted one: nothing is skipped, or only frames far away
  passes_far : (n : ℕ) (s t : State) (over : List CompleteFrame) → Beyond c n s → Taken n s → Passes s over t → ((t ≡ s) × (over ≡ [])) ⊎ IsPast n over t
  passes_far n s t over beyond taken none = inl (refl, refl)
  passes_far n s u over beyond taken (one_more {t = t} passes p) = elim (passes_far n s t _ beyond taken passes) [
    | inr is ↦
        let frame = frame_due c is.next t p.frame is.beyond p.is_due in
        inr (past_one n is.next t u _ is.beyond is.ends is.starts p (omega (arith, is.far, frame.not_before)))
    | inl same ↦
        let beyond_t : Beyond c n t = subst (Beyond c n) (sym same.0) beyond in
        let taken_t : Taken n t = subst (Taken n) (sym same.0) taken in
        elim (cases_lt (frame_due c n t p.frame beyond_t p.is_due).place (n + 16384)) [
          | inl near ↦ absurd (not_passed _ (goes_on c n t p.frame beyond_t p.is_due (inr near) taken_t p.unpacked p.depacketizer p.gives (follows t p.frame)).0 p.may_not)
          | inr far ↦ inr (past_one n n t u _ beyond_t (subst (AllEnd (Outside n)) (sym same.1) tt) (subst (AllStartFrom (start_of (n + 16384))) (sym same.1) tt) p far)
        ]
  ]

  -- the units that pops release or skip from there on, once a gap is passed
  pub record IsPastIn (g : ℕ) (turns : List Turn) : Type 0 where
    pub ends : AllTakenEnd (Outside g) turns
    pub starts : AllPassedFrom (start_of (g + 16384)) turns

  -- a pop past the gap
  pub record PopsPast (g : ℕ) (over : List CompleteFrame) (a : Answer) (t : State) : Type 0 where
    pub next : ℕ
    pub far : g + 16384 ≤ next
    pub beyond : Beyond c next t
    pub ends : AllEnd (Outside g) over
    pub starts : AllStartFrom (start_of (g + 16384)) over
    pub answer : AnswerEnds (Outside g) a

  release_past : (g n : ℕ) (s t : State) (r : Release) (over : List CompleteFrame) (beyond : Beyond c n s) → AllEnd (Outside g) over
      → AllStartFrom (start_of (g + 16384)) over → (out : Releases s r t) → g + 16384 ≤ (frame_due c n s out.frame beyond out.is_due).place → PopsPast g over (Some (Ok r)) t
  release_past g n s t r over beyond ends starts out far =
      let frame = frame_due c n s out.frame beyond out.is_due in
      record {
        next = frame.place + 1;
        far = omega (arith, far);
        beyond = released_beyond n s t r beyond out;
        ends = ends;
        starts = starts;
        answer = release_ends n s t r beyond out (Outside g) (far_outside n g s out.frame beyond out.is_due far);
      }

  from_past : (g : ℕ) (s t : State) (r : Release) (over : List CompleteFrame) → IsPast g over s → Releases s r t → PopsPast g over (Some (Ok r)) t
  from_past g s t r over is out =
      let frame = frame_due c is.next s out.frame is.beyond out.is_due in
      release_past g is.next s t r over is.beyond is.ends is.starts out (omega (arith, is.far, frame.not_before))

  pub pop_past : (g n : ℕ) (s t : State) (over : List CompleteFrame) (a : Answer) → Beyond c n s → g + 16384 ≤ n → IsPop c s t over a → PopsPast g over a t
  pop_past g n s t over None beyond far (waits passes nothing) =
      let is = past_passes g n s t over beyond far passes in
      record { next = is.next; far = is.far; beyond = is.beyond; ends = is.ends; starts = is.starts; answer = tt }
  pop_past g n s t over (Some (Ok r)) beyond far (releases mid passes out) = from_past g mid t r over (past_passes g n s mid over beyond far passes) out
  pop_past g n s t over (Some (Err fault)) beyond far pop = elim pop [ ]

  past_in : (g n : ℕ) (s : State) (turns : List Turn) (end : Stretch) → g + 16384 ≤ n → IsReady c n s → Chain c s turns end → IsPastIn g turns
  past_in g n s [] end far ready chain = record { ends = tt; starts = tt }
  past_in g n s (turn ∷ turns) end far ready chain =
      let now = span_ready c n turn.stretch (left_ready c n s turn.stretch chain.0 ready) chain.1 in
      let pop = pop_past g n turn.stretch.now turn.after turn.passed turn.answer now.beyond far chain.2 in
      let rest = past_in g pop.next turn.after turns end pop.far (record { beyond = pop.beyond; few = few_popped c turn.stretch.now turn.after turn.passed turn.answer now.few chain.2 }) chain.3 in
      record { ends = (pop.ends, pop.answer, rest.ends); starts = (pop.starts, rest.starts) }

  -- a pop that takes the next unit, or none
  pub record PopsNear (n : ℕ) (over : List CompleteFrame) (a : Answer) (t : State) : Type 0 where
    pub nothing : over ≡ []
    pub next : ℕ
    pub not_before : n ≤ next
    pub beyond : Beyond c next t
    pub taken : Taken next t
    pub answer : AnswerEnds (λ e. e < start_of next) a

  release_near : (n : ℕ) (s t : State) (r : Release) (over : List CompleteFrame) → over ≡ [] → (beyond : Beyond c n s) → Taken n s → (out : Releases s r t)
      → (frame_due c n s out.frame beyond out.is_due).place < n + 16384 → PopsNear n over (Some (Ok r)) t
  release_near n s t r over nothing beyond taken out near =
      let frame = frame_due c n s out.frame beyond out.is_due in
      record {
        nothing = nothing;
        next = frame.place + 1;
        not_before = omega (arith, frame.not_before);
        beyond = released_beyond n s t r beyond out;
        taken = subst (Taken (frame.place + 1)) (sym out.left)
            (goes_on c n s out.frame beyond out.is_due (inr near) taken (record { bytes = r.bytes; extra = r.codec_extra }) out.depacketizer out.gives (follows s out.frame)).1;
        answer = release_ends n s t r beyond out (λ e. e < start_of (frame.place + 1)) (frame_ends n (frame.place + 1) s out.frame beyond out.is_due (omega arith));
      }

  pub pop_far : (n : ℕ) (s t : State) (over : List CompleteFrame) (a : Answer) → Beyond c n s → Taken n s → IsPop c s t over a → PopsNear n over a t ⊎ PopsPast n over a t
  pop_far n s t over None beyond taken (waits passes nothing) = elim (passes_far n s t over beyond taken passes) [
    | inl same ↦ inl (record { nothing = same.1; next = n; not_before = omega arith; beyond = subst (Beyond c n) (sym same.0) beyond; taken = subst (Taken n) (sym same.0) taken; answer = tt })
    | inr is ↦ inr (record { next = is.next; far = is.far; beyond = is.beyond; ends = is.ends; starts = is.starts; answer = tt })
  ]
  pop_far n s t over (Some (Ok r)) beyond taken (releases mid passes out) = elim (passes_far n s mid over beyond taken passes) [
    | inl same ↦
        let beyond_mid : Beyond c n mid = subst (Beyond c n) (sym same.0) beyond in
        let taken_mid : Taken n mid = subst (Taken n) (sym same.0) taken in
        elim (cases_lt (frame_due c n mid out.frame beyond_mid out.is_due).place (n + 16384)) [
          | inl near ↦ inl (release_near n mid t r over same.1 beyond_mid taken_mid out near)
          | inr far ↦ inr (release_past n n mid t r over beyond_mid (subst (AllEnd (Outside n)) (sym same.1) tt) (subst (AllStartFrom (start_of (n + 16384))) (sym same.1) tt) out far)
        ]
    | inr is ↦ inr (from_past n mid t r over is out)
  ]
  pop_far n s t over (Some (Err fault)) beyond taken pop = elim pop [ ]

  pub span_taken : (n : ℕ) (s : State) (w : Stretch) → w.left ≡ s → IsReady c n w.left → IsSpan c w → Taken n s → Taken n w.now
  span_taken n s w at ready is taken =
      let left = span_left c n w ready is in
      subst (λ (d : DepacketizerState). Follows c n d w.now.contiguity) (sym left.depacketizer) (subst (Follows c n w.left.depacketizer) (sym left.contiguity) (subst (Taken n) (sym at) taken))

  -- the gap is not before place n
  pub record IsGapFrom (n : ℕ) (turns : List Turn) : Type 0 where
    pub gap : IsGap c.first c.units turns
    pub from : n ≤ gap.place

  pub outside_more : (n g : ℕ) (a : Answer) → n ≤ g → AnswerEnds (λ e. e < start_of n) a → AnswerEnds (Outside g) a
  outside_more n g None l is = tt
  outside_more n g (Some (Err fault)) l is = tt
  outside_more n g (Some (Ok r)) l is = inl (omega (arith, is, start_more n g l))

  gap_from : (n : ℕ) (s : State) (turns : List Turn) (end : Stretch) → IsReady c n s → Taken n s → Chain c s turns end → NonePassedOver turns ⊎ IsGapFrom n turns
  gap_from n s [] end ready taken chain = inl tt
  gap_from n s (turn ∷ turns) end ready taken chain =
      let w = turn.stretch in
      let left = left_ready c n s w chain.0 ready in
      let now = span_ready c n w left chain.1 in
      let few = few_popped c w.now turn.after turn.passed turn.answer now.few chain.2 in
      elim (pop_far n w.now turn.after turn.passed turn.answer now.beyond (span_taken n s w chain.0 left chain.1 taken) chain.2) [
        | inr past ↦
            let rest = past_in n past.next turn.after turns end past.far (record { beyond = past.beyond; few = few }) chain.3 in
            inr (record { gap = record { place = n; none_taken = (past.ends, past.answer, rest.ends); later = (past.starts, rest.starts) }; from = omega arith })
        | inl near ↦ elim (gap_from near.next turn.after turns end (record { beyond = near.beyond; few = few }) near.taken chain.3) [
          | inl nothing ↦ inl (near.nothing, nothing)
          | inr rest ↦
              let g = rest.gap.place in
              inr (record {
                gap = record {
                  place = g;
                  none_taken = (subst (AllEnd (Outside g)) (sym near.nothing) tt, outside_more near.next g turn.answer rest.from near.answer, rest.gap.none_taken);
                  later = (subst (AllStartFrom (start_of (g + 16384))) (sym near.nothing) tt, rest.gap.later);
                };
                from = omega (arith, near.not_before, rest.from);
              })
        ]
      ]

  pub only_past_gap : (s : State) (turns : List Turn) (end : Stretch) → IsReady c 0 s → Taken 0 s → Chain c s turns end → NonePassedOver turns ⊎ IsGap c.first c.units turns
  only_past_gap s turns end ready taken chain = elim (gap_from 0 s turns end ready taken chain) [ inl nothing ↦ inl nothing | inr is ↦ inr is.gap ]
