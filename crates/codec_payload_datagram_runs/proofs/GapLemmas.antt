-- A pop of a run over datagrams skips a frame only after a long series of units that no pop returned.
use Rattle.std.proofs.Common.{sym, ℕ, subst, List, [], ◌∷◌, ◌+◌, ◌<◌, ◌≤◌, ◌⊎◌, inl, inr, arith}
use Rattle.codec_payload_buffer.specs.Steps.{State}
use Rattle.codec_payload_buffer.specs.declared.buffer.frames.CompleteFrame.{CompleteFrame}
use Rattle.codec_payload_buffer_runs.proofs.order.GapLemmas.{IsGapFrom, IsPastIn, Outside, PopsNear, PopsPast, Taken, outside_more, pop_far, pop_past, span_taken, start_of}
use Rattle.codec_payload_buffer_runs.proofs.order.HoldBackLemmas.{beyond_with}
use Rattle.codec_payload_buffer_runs.proofs.order.TurnLemmas.{Beyond, IsReady, Setting, left_ready, span_ready}
use Rattle.codec_payload_buffer_runs.specs.Log.{Stretch, Turn}
use Rattle.codec_payload_buffer_runs.specs.RunUnits.{AllEnd, AllStartFrom, AnswerEnds, IsGap, NonePassedOver}
use Rattle.codec_payload_buffer_runs.specs.Schedule.{Answer}
use Rattle.codec_payload_datagram_runs.proofs.LogLemmas.{Chained, IsTurn, turn_ready}

module _ (c : Setting) where
  -- a pop past the gap
  past_turn : (g n : ℕ) (s t : State) (passed : List CompleteFrame) (a : Answer) → Beyond c n s → g + 16384 ≤ n → IsTurn c s t passed a → PopsPast c g passed a t
  past_turn g n s t passed a beyond far (inl is) = record {
    next = n;
    far = far;
    beyond = subst (Beyond c n) (sym is.2) beyond;
    ends = subst (AllEnd (Outside c g)) (sym is.0) tt;
    starts = subst (AllStartFrom (start_of c (g + 16384))) (sym is.0) tt;
    answer = subst (AnswerEnds (Outside c g)) (sym is.1) tt;
  }
  past_turn g n s t passed a beyond far (inr is) = pop_past c g n (record s { hold_back = is.0 }) t passed a (beyond_with c n is.0 s beyond) far is.1

  -- a pop that takes the next unit, or none, or is past a gap
  far_turn : (n : ℕ) (s t : State) (passed : List CompleteFrame) (a : Answer) → Beyond c n s → Taken c n s → IsTurn c s t passed a → PopsNear c n passed a t ⊎ PopsPast c n passed a t
  far_turn n s t passed a beyond taken (inl is) = inl (record {
    nothing = is.0;
    next = n;
    not_before = omega arith;
    beyond = subst (Beyond c n) (sym is.2) beyond;
    taken = subst (Taken c n) (sym is.2) taken;
    answer = subst (AnswerEnds (λ e. e < start_of c n)) (sym is.1) tt;
  })
  far_turn n s t passed a beyond taken (inr is) = pop_far c n (record s { hold_back = is.0 }) t passed a (beyond_with c n is.0 s beyond) taken is.1

  past_in : (g n : ℕ) (s : State) (turns : List Turn) (end : Stretch) → g + 16384 ≤ n → IsReady c n s → Chained c s turns end → IsPastIn c g turns
  past_in g n s [] end far ready chain = record { ends = tt; starts = tt }
  past_in g n s (turn ∷ turns) end far ready chain =
      let now = span_ready c n turn.stretch (left_ready c n s turn.stretch chain.0 ready) chain.1 in
      let few = (turn_ready c n turn.stretch.now turn.after turn.passed turn.answer now chain.2).1.few in
      let pop = past_turn g n turn.stretch.now turn.after turn.passed turn.answer now.beyond far chain.2 in
      let rest = past_in g pop.next turn.after turns end pop.far (record { beyond = pop.beyond; few = few }) chain.3 in
      record { ends = (pop.ends, pop.answer, rest.ends); starts = (pop.starts, rest.starts) }

  gap_from : (n : ℕ) (s : State) (turns : List Turn) (end : Stretch) → IsReady c n s → Taken c n s → Chained c s turns end → NonePassedOver turns ⊎ IsGapFrom c n turns
  gap_from n s [] end ready taken chain = inl tt
  gap_from n s (turn ∷ turns) end ready taken chain =
      let w = turn.stretch in
      let left = left_ready c n s w chain.0 ready in
      let now = span_ready c n w left chain.1 in
      let few = (turn_ready c n w.now turn.after turn.passed turn.answer now chain.2).1.few in
      elim (far_turn n w.now turn.after turn.passed turn.answer now.beyond (span_taken c n s w chain.0 left chain.1 taken) chain.2) [
        | inr past ↦
            let rest = past_in n past.next turn.after turns end past.far (record { beyond = past.beyond; few = few }) chain.3 in
            inr (record { gap = record { place = n; none_taken = (past.ends, past.answer, rest.ends); later = (past.starts, rest.starts) }; from = omega arith })
        | inl near ↦ elim (gap_from near.next turn.after turns end (record { beyond = near.beyond; few = few }) near.taken chain.3) [
          | inl nothing ↦ inl (near.nothing, nothing)
          | inr rest ↦
              let g = rest.gap.place in
              inr (record {
                gap = record {
                  place = g;
                  none_taken = (subst (AllEnd (Outside c g)) (sym near.nothing) tt, outside_more c near.next g turn.answer rest.from near.answer, rest.gap.none_taken);
                  later = (subst (AllStartFrom (start_of c (g + 16384))) (sym near.nothing) tt, rest.gap.later);
                };
                from = omega (arith, near.not_before, rest.from);
              })
        ]
      ]

  pub only_past_gap : (s : State) (turns : List Turn) (end : Stretch) → IsReady c 0 s → Taken c 0 s → Chained c s turns end → NonePassedOver turns ⊎ IsGap c.first c.units turns
  only_past_gap s turns end ready taken chain = elim (gap_from 0 s turns end ready taken chain) [ inl nothing ↦ inl nothing | inr is ↦ inr is.gap ]
