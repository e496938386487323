-- The pops of a run over datagrams, one after another: each waits for a number of complete frames, or is not made.
use Rattle.std.proofs.Common.{◌≡◌, ◌∙◌, refl, sym, ap, subst, ℕ, ◌+◌, List, [], ◌∷◌, ◌++◌, Bool, true, Option, Some, None, Ok, Err, ◌⊎◌, inl, inr}
use Rattle.std.specs.Prelude.{slice_get}
use Rattle.codec_payload_buffer.proofs.MemberLemmas.{IsIn}
use Rattle.codec_payload_buffer.specs.Held.{Held}
use Rattle.codec_payload_buffer.specs.Steps.{IsSound, State, arrived, pushed}
use Rattle.codec_payload_buffer.specs.Stretches.{after_pushes}
use Rattle.codec_payload_buffer.specs.declared.buffer.frames.CompleteFrame.{CompleteFrame}
use Rattle.codec_payload_metadata.specs.declared.meta.RtpMeta.{RtpMeta}
use Rattle.codec_payload_codec.specs.Depacketizers.{DepacketizerKind}
use Rattle.codec_payload_jitter.specs.Receiving.{Receiving}
use Rattle.codec_payload_base.specs.declared.wire.Ticks.{Ticks}
use Rattle.codec_payload_buffer_runs.proofs.order.ContiguousLemmas as contiguous
use Rattle.codec_payload_buffer_runs.proofs.order.ContiguousLemmas.{IsTracked, tracked_span}
use Rattle.codec_payload_buffer_runs.proofs.order.HoldBackLemmas.{ready_with}
use Rattle.codec_payload_buffer_runs.proofs.order.LossLemmas as loss
use Rattle.codec_payload_buffer_runs.proofs.order.LossLemmas.{Whole, at_span, later_too, more}
use Rattle.codec_payload_buffer_runs.proofs.order.TakenLemmas.{IsPlain, none_is_passed}
use Rattle.codec_payload_buffer_runs.proofs.order.TurnLemmas.{ArePushes, IsPop, IsPush, IsReady, IsSpan, Setting, are_stretches, count, left_ready, pop_is, ready_pops, span_left, span_ready, span_within}
use Rattle.codec_payload_buffer_runs.proofs.order.TurnLemmas as pops
use Rattle.codec_payload_buffer_runs.proofs.units.UnitRows.{held_as}
use Rattle.codec_payload_buffer_runs.specs.Headline.{packets_before}
use Rattle.codec_payload_buffer_runs.specs.Log.{Stretch, Turn, begun, with_pushes}
use Rattle.codec_payload_buffer_runs.specs.RunOrder.{AllFollowAsSaid, AreStretches, FollowsAsSaid, has_evicted, last_released}
use Rattle.codec_payload_buffer_runs.specs.RunUnits.{Fate, IsAmong, NoneIsLost, NonePassedOver, ReleasesWhole, evicted, held, released, skipped_over}
use Rattle.codec_payload_buffer_runs.specs.Schedule.{Answer}
use Rattle.codec_payload_buffer_runs.specs.SentStream.{SentUnit, packets_of}
use Rattle.codec_payload_payloader.specs.Packets.{Packet}
use Rattle.codec_payload_datagram_runs.proofs.FateLemmas.{fate_of}
use Rattle.codec_payload_datagram_runs.proofs.StretchChains.{AllTurns, Cuts, IsMade, IsTaken, LeaveAll, Watched, cuts_made, in_time, releases, waits}
use Rattle.codec_payload_datagram_runs.specs.Deliveries.{IsCutoffBelow}
use Rattle.codec_payload_datagram_runs.specs.WireLogs.{AllInTime, AnswersTurn, IsLogOf, wait_of}
use Rattle.codec_payload_datagram_runs.specs.declared.run.DatagramStep.{DatagramStep}
use Rattle.codec_payload_datagram_runs.specs.declared.run.DatagramStep.TheVariants as steps

-- what is known of each packet may be stated in other words, if it is known of each delivery
pub log_known : (all_steps : List DatagramStep) (known told : ℕ → Packet → RtpMeta → Type 0) (packets : List Packet) (r : Receiving)
    → ((k : ℕ) (q : Packet) (meta : RtpMeta) → IsIn (steps.Deliver k meta.received) all_steps → known k q meta → told k q meta)
    → (at_end : Bool) (later : List DatagramStep) → ((step : DatagramStep) → IsIn step later → IsIn step all_steps) → (w : Stretch) (turns : List Turn) (end : Stretch)
    → IsLogOf known packets r at_end later w turns end → IsLogOf told packets r at_end later w turns end
log_known all_steps known told packets r so at_end [] among w [] end log = log
log_known all_steps known told packets r so at_end [] among w (turn ∷ turns) end log = absurd log
log_known all_steps known told packets r so at_end (steps.Send i ∷ later) among w turns end log =
    log_known all_steps known told packets r so at_end later (λ step is. among step (inr is)) w turns end log
log_known all_steps known told packets r so at_end (steps.Deliver k now ∷ later) among w turns end log =
    let here : IsIn (steps.Deliver k log.1.received) all_steps =
    subst (λ (at : Ticks). IsIn (steps.Deliver k at) all_steps) (sym log.4) (among (steps.Deliver k now) (inl refl)) in (
      log.0,
      log.1,
      log.2,
      so k log.0 log.1 here log.3,
      log.4,
      log_known all_steps known told packets r so at_end later (λ step is. among step (inr is)) (with_pushes w (arrived w.now.depacketizer log.1 log.0.payload ∷ [])) turns end log.5,
    )
log_known all_steps known told packets r so at_end (steps.Pop now ∷ later) among w [] end log = absurd log
log_known all_steps known told packets r so at_end (steps.Pop now ∷ later) among w (turn ∷ turns) end log =
    (log.0, log.1, log_known all_steps known told packets r so at_end later (λ step is. among step (inr is)) (begun turn.after) turns end log.2)
log_known all_steps known told packets r so at_end (steps.Finish ∷ later) among w turns end log =
    log_known all_steps known told packets r so true later (λ step is. among step (inr is)) w turns end log

module _ (c : Setting) where
  -- Turns

  -- a pop that is made with some `hold_back`, or is not made
  abbrev pub IsTurn : State → State → List CompleteFrame → Answer → Type 0
  IsTurn s t passed a = ((passed ≡ []) × (a ≡ None) × (t ≡ s)) ⊎ ((h : ℕ) × IsPop c (record s { hold_back = h }) t passed a)

  -- the turns follow one another from s on
  abbrev pub Chained : State → List Turn → Stretch → Type 0
  Chained s [] end = (end.left ≡ s) × IsSpan c end
  Chained s (turn ∷ turns) end = (turn.stretch.left ≡ s) × IsSpan c turn.stretch × IsTurn turn.stretch.now turn.after turn.passed turn.answer × Chained turn.after turns end

  pub turn_ready : (from : ℕ) (s t : State) (passed : List CompleteFrame) (a : Answer) → IsReady c from s → IsTurn s t passed a → (next : ℕ) × IsReady c next t
  turn_ready from s t passed a ready (inl is) = (from, subst (IsReady c from) (sym is.2) ready)
  turn_ready from s t passed a ready (inr is) = ready_pops c from (record s { hold_back = is.0 }) t passed a (ready_with c from is.0 s ready) is.1

  pub turn_of : (from : ℕ) (wait : Option ℕ) (s t : State) (passed : List CompleteFrame) (a : Answer) → IsReady c from s → AnswersTurn wait s passed a t → IsTurn s t passed a
  turn_of from None s t passed a ready is = inl is
  turn_of from (Some h) s t passed a ready is = inr (h, pop_is c from (record s { hold_back = h }) t passed a (ready_with c from h s ready).beyond is.1 is.0)

  after_one : (s : State) (ps : List Held) (p : Held) → after_pushes s (ps ++ p ∷ []) ≡ pushed (after_pushes s ps) p
  after_one s [] p = refl
  after_one s (q ∷ ps) p = after_one (pushed s q) ps p

  pub pushes_more : (ps qs : List Held) → ArePushes c ps → ArePushes c qs → ArePushes c (ps ++ qs)
  pushes_more [] qs a b = b
  pushes_more (p ∷ ps) qs a b = (a.0, pushes_more ps qs a.1 b)

  -- the log of a run is a chain
  pub chained : (r : Receiving) (at_end : Bool) (later : List DatagramStep) (from : ℕ) (w : Stretch) (turns : List Turn) (end : Stretch) → IsReady c from w.left → IsSpan c w
      → IsLogOf c.known (packets_of c.units) r at_end later w turns end → Chained w.left turns end
  chained r at_end [] from w [] end ready is log = (ap (λ (x : Stretch). x.left) log, subst (IsSpan c) (sym log) is)
  chained r at_end [] from w (turn ∷ turns) end ready is log = absurd log
  chained r at_end (steps.Send i ∷ later) from w turns end ready is log = chained r at_end later from w turns end ready is log
  chained r at_end (steps.Deliver k now ∷ later) from w turns end ready is log =
      let reads = (span_ready c from w ready is).beyond.reads in
      let p : Held = arrived w.now.depacketizer log.1 log.0.payload in
      let push : IsPush c p = (k, log.0, log.2, log.3, ap (λ (x : DepacketizerKind). held_as x log.1 log.0.payload) reads) in
      chained r at_end later from (with_pushes w (p ∷ [])) turns end ready
      (record { sent = pushes_more w.pushes (p ∷ []) is.sent (push, tt); now = ap (λ (s : State). pushed s p) is.now ∙ sym (after_one w.left w.pushes p) }) log.5
  chained r at_end (steps.Pop now ∷ later) from w [] end ready is log = absurd log
  chained r at_end (steps.Pop now ∷ later) from w (turn ∷ turns) end ready is log =
      let at = span_ready c from w ready is in
      let made = turn_of from (wait_of r at_end w.now now.0) w.now turn.after turn.passed turn.answer at log.1 in
      let next = turn_ready from w.now turn.after turn.passed turn.answer at made in (
        ap (λ (x : Stretch). x.left) log.0,
        subst (IsSpan c) (sym log.0) is,
        subst (λ (x : Stretch). IsTurn x.now turn.after turn.passed turn.answer) (sym log.0) made,
        chained r at_end later next.0 (begun turn.after) turns end next.1 (record { sent = tt; now = refl }) log.2,
      )
  chained r at_end (steps.Finish ∷ later) from w turns end ready is log = chained r true later from w turns end ready is log

  -- Order

  pub stretches : (from : ℕ) (s : State) (turns : List Turn) (end : Stretch) → IsReady c from s → Chained s turns end → AreStretches c.known c.first (packets_of c.units) turns end
  stretches from s [] end ready chain = are_stretches c from s [] end ready chain
  stretches from s (turn ∷ turns) end ready chain =
      let left = left_ready c from s turn.stretch chain.0 ready in
      let next = turn_ready from turn.stretch.now turn.after turn.passed turn.answer (span_ready c from turn.stretch left chain.1) chain.2 in
      (are_stretches c from s [] turn.stretch ready (chain.0, chain.1), stretches next.0 turn.after turns end next.1 chain.3)

  -- Loss

  at_turn : (from : ℕ) (s t : State) (passed : List CompleteFrame) (a : Answer) (place : ℕ) (u : SentUnit) → IsReady c from s → IsTurn s t passed a → slice_get c.units place ≡ Some u
      → Whole c place s
      → ReleasesWhole c.known c.splits c.units place a ⊎ (IsAmong c.first c.units place passed ⊎ Whole c place t)
  at_turn from s t passed a place u ready (inl is) at whole = inr (inr (subst (Whole c place) (sym is.2) whole))
  at_turn from s t passed a place u ready (inr is) at whole = loss.at_pop c from (record s { hold_back = is.0 }) t passed a place u (ready_with c from is.0 s ready).beyond is.1 at whole

  abbrev FateIn : ℕ → List Turn → List Turn → Stretch → Type 0
  FateIn place turns later end = Fate c.known c.first c.splits c.units place turns later end

  fate : (from : ℕ) (s : State) (turns : List Turn) (end : Stretch) (place : ℕ) (u : SentUnit) → IsReady c from s → Chained s turns end
      → slice_get c.units place ≡ Some u → Whole c place s → FateIn place turns turns end
  fate from s [] end place u ready chain at whole =
      elim (at_span c from end place (left_ready c from s end chain.0 ready) chain.1 (subst (Whole c place) (sym chain.0) whole)) [
        | inl still ↦ held still
        | inr out ↦ evicted out
      ]
  fate from s (turn ∷ turns) end place u ready chain at whole =
      let left = left_ready c from s turn.stretch chain.0 ready in
      let now = span_ready c from turn.stretch left chain.1 in
      let next = turn_ready from turn.stretch.now turn.after turn.passed turn.answer now chain.2 in
      elim (at_span c from turn.stretch place left chain.1 (subst (Whole c place) (sym chain.0) whole)) [
        | inr out ↦ evicted (out.0, out.1, inl out.2)
        | inl still ↦ later_too c place turn turns end (elim (at_turn from turn.stretch.now turn.after turn.passed turn.answer place u now chain.2 at still) [
          | inl done ↦ released (inl done)
          | inr left_over ↦ elim left_over [
            | inl over ↦ skipped_over (inl over)
            | inr after ↦ more c place turn turns end (fate next.0 turn.after turns end place u next.1 chain.3 at after)
          ]
        ])
      ]

  pub none_is_lost : (from : ℕ) (s : State) (turns : List Turn) (end : Stretch) → IsReady c from s → Chained s turns end → NoneIsLost c.known c.first c.splits c.units turns end
  none_is_lost from s [] end ready chain = tt
  none_is_lost from s (turn ∷ turns) end ready chain =
      let left = left_ready c from s turn.stretch chain.0 ready in
      let now = span_ready c from turn.stretch left chain.1 in
      let next = turn_ready from turn.stretch.now turn.after turn.passed turn.answer now chain.2 in (
        λ place u at whole. elim (at_turn from turn.stretch.now turn.after turn.passed turn.answer place u now chain.2 at whole) [
          | inl done ↦ released (inl done)
          | inr left_over ↦ elim left_over [
            | inl over ↦ skipped_over (inl over)
            | inr after ↦ more c place turn turns end (fate next.0 turn.after turns end place u next.1 chain.3 at after)
          ]
        ],
        none_is_lost next.0 turn.after turns end next.1 chain.3,
      )

  -- Codecs without picture ids

  turn_passes : (from : ℕ) (s t : State) (passed : List CompleteFrame) (a : Answer) → IsPlain c → IsReady c from s → IsTurn s t passed a → passed ≡ []
  turn_passes from s t passed a plain ready (inl is) = is.0
  turn_passes from s t passed a plain ready (inr is) =
      let at : State = record s { hold_back = is.0 } in
      (none_is_passed c from at (record { stretch = begun at; passed = passed; answer = a; after = t } ∷ []) (begun t) plain (ready_with c from is.0 s ready)
      (refl, record { sent = tt; now = refl }, is.1, (refl, record { sent = tt; now = refl }))).0

  pub none_passed : (from : ℕ) (s : State) (turns : List Turn) (end : Stretch) → IsPlain c → IsReady c from s → Chained s turns end → NonePassedOver turns
  none_passed from s [] end plain ready chain = tt
  none_passed from s (turn ∷ turns) end plain ready chain =
      let now = span_ready c from turn.stretch (left_ready c from s turn.stretch chain.0 ready) chain.1 in
      let next = turn_ready from turn.stretch.now turn.after turn.passed turn.answer now chain.2 in
      (turn_passes from turn.stretch.now turn.after turn.passed turn.answer plain now chain.2, none_passed next.0 turn.after turns end plain next.1 chain.3)

  -- Contiguity

  tracked_with : (last : Option ℕ) (gone : Bool) (s : State) (h : ℕ) → IsTracked last gone s → IsTracked last gone (record s { hold_back = h })
  tracked_with None gone s h known = known
  tracked_with (Some n) gone s h known = known

  turn_follows : (from : ℕ) (last : Option ℕ) (gone : Bool) (s t : State) (passed : List CompleteFrame) (a : Answer) → IsPlain c → IsReady c from s → IsTracked last gone s
      → IsTurn s t passed a → FollowsAsSaid last gone a × IsTracked (last_released last a) gone t
  turn_follows from last gone s t passed a plain ready known (inl is) =
      subst (λ (b : Answer). FollowsAsSaid last gone b × IsTracked (last_released last b) gone t) (sym is.1) (tt, subst (IsTracked last gone) (sym is.2) known)
  turn_follows from last gone s t passed a plain ready known (inr is) =
      contiguous.at_pop c from last gone (record s { hold_back = is.0 }) t passed a plain (ready_with c from is.0 s ready).beyond (tracked_with last gone s is.0 known) is.1

  pub all_follow : (from : ℕ) (last : Option ℕ) (gone : Bool) (s : State) (turns : List Turn) (end : Stretch) → IsPlain c → IsReady c from s → IsTracked last gone s → Chained s turns end
      → AllFollowAsSaid c.first (count c) last gone turns
  all_follow from last gone s [] end plain ready known chain = tt
  all_follow from last gone s (turn ∷ turns) end plain ready known chain =
      let left = left_ready c from s turn.stretch chain.0 ready in
      let now = span_ready c from turn.stretch left chain.1 in
      let by_now = has_evicted c.first (count c) gone turn.stretch in
      let tracked = tracked_span c from last gone turn.stretch left chain.1 (subst (IsTracked last gone) (sym chain.0) known) in
      let step = turn_follows from last by_now turn.stretch.now turn.after turn.passed turn.answer plain now tracked chain.2 in
      let next = turn_ready from turn.stretch.now turn.after turn.passed turn.answer now chain.2 in
      (step.0, all_follow next.0 (last_released last turn.answer) by_now turn.after turns end plain next.1 step.1 chain.3)

  -- In time

  taken_as : (s t : State) (passed : List CompleteFrame) (a : Answer) → IsPop c s t passed a → IsTaken s t passed a
  taken_as s t passed None (pops.waits passes nothing) = waits passes nothing
  taken_as s t passed (Some (Ok r)) (pops.releases mid passes out) = releases mid passes out
  taken_as s t passed (Some (Err fault)) pop = elim pop [ ]

  made_as : (s t : State) (passed : List CompleteFrame) (a : Answer) → IsTurn s t passed a → IsMade s t passed a
  made_as s t passed a (inl is) = inl is
  made_as s t passed a (inr is) = inr (is.0, taken_as (record s { hold_back = is.0 }) t passed a is.1)

  pub leaves : (from : ℕ) (s : State) (turns : List Turn) (end : Stretch) → IsReady c from s → Chained s turns end → LeaveAll c.first (count c) s turns end
  leaves from s [] end ready chain =
      let left = left_ready c from s end chain.0 ready in
      (chain.0, record { within = span_within c from end left chain.1; left = span_left c from end left chain.1 })
  leaves from s (turn ∷ turns) end ready chain =
      let left = left_ready c from s turn.stretch chain.0 ready in
      let next = turn_ready from turn.stretch.now turn.after turn.passed turn.answer (span_ready c from turn.stretch left chain.1) chain.2 in
      (chain.0, record { within = span_within c from turn.stretch left chain.1; left = span_left c from turn.stretch left chain.1 }, leaves next.0 turn.after turns end next.1 chain.3)

  abbrev low_of : ℕ → ℕ
  low_of place = c.first + packets_before place c.units

  abbrev high_of : ℕ → ℕ
  high_of place = c.first + packets_before (place + 1) c.units

  pub watched : (place : ℕ) (u : SentUnit) → slice_get c.units place ≡ Some u → (from : ℕ) (s : State) (turns : List Turn) (end : Stretch) → IsReady c from s → Chained s turns end
      → AllTurns (Watched (low_of place) (high_of place) (ReleasesWhole c.known c.splits c.units place)) turns
  watched place u at from s [] end ready chain = tt
  watched place u at from s (turn ∷ turns) end ready chain =
      let now = span_ready c from turn.stretch (left_ready c from s turn.stretch chain.0 ready) chain.1 in
      let next = turn_ready from turn.stretch.now turn.after turn.passed turn.answer now chain.2 in (
        λ has. elim (at_turn from turn.stretch.now turn.after turn.passed turn.answer place u now chain.2 at (λ n is. has n is.from is.to)) [
          | inl done ↦ inl done
          | inr left ↦ elim left [ inl over ↦ inr (inl over) | inr still ↦ inr (inr (λ n a b. still n (record { from = a; to = b }))) ]
        ],
        watched place u at next.0 turn.after turns end next.1 chain.3,
      )

  pub cuts : (low from : ℕ) (s : State) (turns : List Turn) (end : Stretch) → IsReady c from s → Chained s turns end → AllTurns (Cuts low) turns
  cuts low from s [] end ready chain = tt
  cuts low from s (turn ∷ turns) end ready chain =
      let now = span_ready c from turn.stretch (left_ready c from s turn.stretch chain.0 ready) chain.1 in
      let next = turn_ready from turn.stretch.now turn.after turn.passed turn.answer now chain.2 in
      let sound : IsSound turn.stretch.now = record { rises = now.beyond.rises; above = now.beyond.beyond; few = now.few } in
      (cuts_made low turn.stretch.now turn.after turn.passed turn.answer sound (made_as turn.stretch.now turn.after turn.passed turn.answer chain.2), cuts low next.0 turn.after turns end next.1 chain.3)

  pub all_in_time : (s : State) (turns : List Turn) (end : Stretch) → IsReady c 0 s → s.cutoff ≡ None → Chained s turns end → AllInTime c.known c.first c.splits c.units turns end
  all_in_time s turns end ready no_cutoff chain place u at comes =
      let low : ℕ = low_of place in
      fate_of c.known c.first c.splits c.units place turns turns end
      (in_time low (high_of place) c.first (count c) (ReleasesWhole c.known c.splits c.units place) s turns end [] (leaves 0 s turns end ready chain) (watched place u at 0 s turns end ready chain)
      (cuts low 0 s turns end ready chain) (subst (IsCutoffBelow low) (sym no_cutoff) tt) (λ n a b h. absurd (cc)) comes)
