-- What a run in RED does to the buffer of the receiver: each delivery pushes sent packets, and before a pop the cutoff may move past
-- numbers that are not held. Units are released in order, each at most once.
use Rattle.std.proofs.Common.{◌≡◌, ◌≢◌, ◌∙◌, refl, sym, ap, subst, ℕ, ◌+◌, ◌≤◌, ◌&&◌, ◌||◌, List, [], ◌∷◌, ◌++◌, Bool, true, false, not, cond, eqb, Option, Some, None, inl, arith}
use Rattle.std.specs.Prelude.{slice_get}
use Rattle.std.proofs.lemmas.Bool.{eqb-true, eq-eqb}
use Rattle.codec_payload_base.specs.declared.wire.Ticks.{Ticks}
use Rattle.codec_payload_buffer.specs.Blanks.{is_right_after, passed_number}
use Rattle.codec_payload_buffer.specs.Held.{AllAbove, Held, IsAboveCutoff, has_number, number_of}
use Rattle.codec_payload_buffer.specs.Steps.{State, arrived, pushed}
use Rattle.codec_payload_metadata.specs.declared.meta.RtpMeta.{RtpMeta}
use Rattle.codec_payload_codec.specs.Depacketizers.{DepacketizerKind}
use Rattle.codec_payload_jitter.specs.NoMediaNumbers.{is_done, passed_no_media}
use Rattle.codec_payload_buffer_runs.proofs.order.HoldBackLemmas.{beyond_with}
use Rattle.codec_payload_buffer_runs.proofs.order.SafetyLemmas.{beyond_pushed, next_after}
use Rattle.codec_payload_buffer_runs.proofs.order.TurnLemmas.{Beyond, IsPush, Setting, pop_in_order, pop_is}
use Rattle.codec_payload_buffer_runs.proofs.units.UnitRows.{held_as}
use Rattle.codec_payload_buffer_runs.specs.Arrivals.{PopsWaiting}
use Rattle.codec_payload_buffer_runs.specs.Headline.{InOrder}
use Rattle.codec_payload_buffer_runs.specs.Schedule.{Answer}
use Rattle.codec_payload_buffer_runs.specs.SentStream.{packets_of}
use Rattle.codec_payload_payloader.specs.Packets.{Packet}
use Rattle.codec_payload_datagram_runs.proofs.DeliveredLemmas.{AllIn, in_pushed, in_waiting, one_more_step}
use Rattle.codec_payload_datagram_runs.specs.Releases.{AreDeliveredBefore, WasDelivered}
use Rattle.codec_payload_datagram_runs.specs.declared.run.DatagramStep.{DatagramStep}
use Rattle.codec_payload_datagram_runs.specs.declared.run.DatagramStep.TheVariants as steps

-- The cutoff

-- the cutoff moved up, and nothing that is held is below it
pub record IsRaised (s t : State) : Type 0 where
  pub is : t ≡ record s { cutoff = t.cutoff }
  pub beyond : IsAboveCutoff s.cutoff s.held → IsAboveCutoff t.cutoff s.held
  pub higher : (first : ℕ) → next_after first s.cutoff ≤ next_after first t.cutoff

pub not_raised : (s : State) → IsRaised s s
not_raised s = record { is = refl; beyond = λ above. above; higher = λ first. omega arith }

raised_then : (s mid t : State) → IsRaised s mid → IsRaised mid t → IsRaised s t
raised_then s mid t one two =
    let held : mid.held ≡ s.held = ap (λ (x : State). x.held) one.is in
    record {
      is = two.is ∙ ap (λ (x : State). record x { cutoff = t.cutoff }) one.is;
      beyond = λ above. subst (IsAboveCutoff t.cutoff) held (two.beyond (subst (IsAboveCutoff mid.cutoff) (sym held) (one.beyond above)));
      higher = λ first. let a = one.higher first in let b = two.higher first in omega (arith, a, b);
    }

above_next : (c n : ℕ) (hs : List Held) → c + 1 ≡ n → has_number n hs ≡ false → AllAbove c hs → AllAbove n hs
above_next c n [] next absent above = tt
above_next c n (p ∷ ps) next absent above =
    let parts = or_false (eqb (number_of p) n) (has_number n ps) absent in
    let differ : number_of p ≢ n = λ same. let test : eqb (number_of p) n ≡ true = eq-eqb (number_of p) n same in let not_test : eqb (number_of p) n ≡ false = parts.0 in cc in
    (omega (arith, above.0, differ, next), above_next c n ps next parts.1 above.1)
  where
    or_false : (a b : Bool) → a || b ≡ false → (a ≡ false) × (b ≡ false)
    or_false true b h = absurd (cc)
    or_false false b h = (refl, h)

one_raised : (s : State) (n : ℕ) → IsRaised s (passed_number s n)
one_raised s n = by_next (is_right_after s.cutoff n) (has_number n s.held) refl refl
  where
    by_cutoff : (o : Option ℕ) → s.cutoff ≡ o → is_right_after o n ≡ true → has_number n s.held ≡ false → IsRaised s (record s { cutoff = Some n })
    by_cutoff None at next absent = absurd (cc)
    by_cutoff (Some c) at next absent =
        let is : c + 1 ≡ n = eqb-true (c + 1) n next in
        record {
          is = refl;
          beyond = λ above. above_next c n s.held is absent (subst (λ (o : Option ℕ). IsAboveCutoff o s.held) at above);
          higher = λ first. let now : next_after first s.cutoff ≡ c + 1 = ap (next_after first) at in omega (arith, now, is);
        }

    by_next : (a b : Bool) → is_right_after s.cutoff n ≡ a → has_number n s.held ≡ b → IsRaised s (cond (a && not b) (record s { cutoff = Some n }) s)
    by_next true false next absent = by_cutoff s.cutoff refl next absent
    by_next true true next there = not_raised s
    by_next false b next there = not_raised s

pub raised : (s : State) (ns : List ℕ) → IsRaised s (passed_no_media s ns)
raised s [] = not_raised s
raised s (n ∷ ns) = by_done (is_done s n) (raised (passed_number s n) ns)
  where
    by_done : (b : Bool) → IsRaised (passed_number s n) (passed_no_media (passed_number s n) ns) → IsRaised s (cond b (passed_no_media (passed_number s n) ns) s)
    by_done true rest = raised_then s (passed_number s n) (passed_no_media (passed_number s n) ns) (one_raised s n) rest
    by_done false rest = not_raised s

-- Courses

module _ (known : ℕ → Packet → RtpMeta → Type 0) (packets : List Packet) where
  -- pushes of sent packets that arrive at this time
  abbrev pub Feeds : Ticks → List Held → State → State → Type 0
  Feeds now [] s t = t ≡ s
  Feeds now (p ∷ ps) s t =
      (k : ℕ) × (q : Packet) × (meta : RtpMeta) × (slice_get packets k ≡ Some q) × known k q meta × (meta.received ≡ now) × (p ≡ arrived s.depacketizer meta q.payload)
      × Feeds now ps (pushed s p) t

  pub feeds_append : (now : Ticks) (ps qs : List Held) (s mid t : State) → Feeds now ps s mid → Feeds now qs mid t → Feeds now (ps ++ qs) s t
  feeds_append now [] qs s mid t one two = subst (λ (x : State). Feeds now qs x t) one two
  feeds_append now (p ∷ ps) qs s mid t one two = (one.0, one.1, one.2, one.3, one.4, one.5, one.6, feeds_append now ps qs (pushed s p) mid t one.7 two)

  -- the steps of the receiver, as steps of its buffer
  abbrev pub Course : List DatagramStep → State → List Answer → State → Type 0
  Course [] s answers t = (answers ≡ []) × (t ≡ s)
  Course (steps.Send i ∷ later) s answers t = Course later s answers t
  Course (steps.Deliver k now ∷ later) s answers t = (ps : List Held) × (mid : State) × Feeds now ps s mid × Course later mid answers t
  Course (steps.Pop now ∷ later) s answers t =
      (answer : Answer) × (more : List Answer) × (up : State) × (wait : Option ℕ) × (mid : State) × (answers ≡ answer ∷ more) × IsRaised s up × PopsWaiting wait up answer mid
      × Course later mid more t
  Course (steps.Finish ∷ later) s answers t = Course later s answers t

  -- Deliveries before pops

  in_fed : (before : List DatagramStep) (k : ℕ) (now : Ticks) (ps : List Held) (s t : State) → Feeds now ps s t → AllIn (steps.Deliver k now ∷ before) s.held
      → AllIn (steps.Deliver k now ∷ before) t.held
  in_fed before k now [] s t feeds all = subst (λ (x : State). AllIn (steps.Deliver k now ∷ before) x.held) (sym feeds) all
  in_fed before k now (p ∷ ps) s t feeds all =
      let time : p.meta.received ≡ now = ap (λ (h : Held). h.meta.received) feeds.6 ∙ feeds.5 in
      let here : WasDelivered (steps.Deliver k now ∷ before) p.meta = (k, inl (ap (λ (at : Ticks). steps.Deliver k at) (sym time))) in
      in_fed before k now ps (pushed s p) t feeds.7 (in_pushed (steps.Deliver k now ∷ before) s p here all)

  pub fed_before : (later before : List DatagramStep) (s t : State) (answers : List Answer) → Course later s answers t → AllIn before s.held → AreDeliveredBefore before later answers
  fed_before [] before s t answers course all = tt
  fed_before (steps.Send i ∷ later) before s t answers course all = fed_before later before s t answers course all
  fed_before (steps.Deliver k now ∷ later) before s t answers course all =
      fed_before later (steps.Deliver k now ∷ before) course.1 t answers course.3
      (in_fed before k now course.0 s course.1 course.2 (one_more_step (steps.Deliver k now) before s.held all))
  fed_before (steps.Pop now ∷ later) before s t answers course all =
      let held : course.2.held ≡ s.held = ap (λ (x : State). x.held) course.6.is in
      let pop = in_waiting before course.3 course.2 course.4 course.0 course.7 (subst (AllIn before) (sym held) all) in
      subst (AreDeliveredBefore before (steps.Pop now ∷ later)) (sym course.5) (pop.0, fed_before later before course.4 t course.1 course.8 pop.1)
  fed_before (steps.Finish ∷ later) before s t answers course all = fed_before later before s t answers course all

-- Order

module _ (c : Setting) where
  pub fed_push : (s : State) (p : Held) (k : ℕ) (q : Packet) (meta : RtpMeta) → slice_get (packets_of c.units) k ≡ Some q → c.known k q meta → p ≡ arrived s.depacketizer meta q.payload
      → (from : ℕ) → Beyond c from s → IsPush c p
  fed_push s p k q meta there known is from beyond =
      let held : p ≡ held_as c.kind meta q.payload = is ∙ ap (λ (x : DepacketizerKind). held_as x meta q.payload) beyond.reads in
      let same : p.meta ≡ meta = ap (λ (h : Held). h.meta) is in
      (k, q, there, subst (c.known k q) (sym same) known, held ∙ ap (λ (m : RtpMeta). held_as c.kind m q.payload) (sym same))

  pub beyond_fed : (from : ℕ) (now : Ticks) (ps : List Held) (s t : State) → Feeds c.known (packets_of c.units) now ps s t → Beyond c from s → Beyond c from t
  beyond_fed from now [] s t feeds beyond = subst (Beyond c from) (sym feeds) beyond
  beyond_fed from now (p ∷ ps) s t feeds beyond =
      let push = fed_push s p feeds.0 feeds.1 feeds.2 feeds.3 feeds.4 feeds.6 from beyond in
      beyond_fed from now ps (pushed s p) t feeds.7
      (beyond_pushed c.known c.clock_rate c.first c.kind c.faithful c.splits c.units c.lawful c.numbered from s p push beyond)

  beyond_raised : (from : ℕ) (s t : State) → IsRaised s t → Beyond c from s → Beyond c from t
  beyond_raised from s t up beyond =
      let higher = up.higher c.first in
      subst (Beyond c from) (sym up.is) (record {
        rises = beyond.rises;
        beyond = up.beyond beyond.beyond;
        sent = beyond.sent;
        floor = omega (arith, beyond.floor, higher);
        reads = beyond.reads;
      })

  turn_in_order : (from : ℕ) (s t : State) (answer : Answer) (more : List Answer) (wait : Option ℕ) → Beyond c from s → PopsWaiting wait s answer t
      → ((n : ℕ) → Beyond c n t → InOrder c.known c.splits c.units n more) → InOrder c.known c.splits c.units from (answer ∷ more)
  turn_in_order from s t answer more None beyond pops rest =
      subst (λ (a : Answer). InOrder c.known c.splits c.units from (a ∷ more)) (sym pops.0) (rest from (subst (Beyond c from) (sym pops.1) beyond))
  turn_in_order from s t answer more (Some h) beyond pops rest =
      let waiting : State = record s { hold_back = h } in
      let before = beyond_with c from h s beyond in
      let pop = pop_is c from waiting t pops.1.0 answer before pops.1.1 pops.0 in
      pop_in_order c from waiting t pops.1.0 answer more before pop rest

  pub course_in_order : (from : ℕ) (later : List DatagramStep) (s t : State) (answers : List Answer) → Beyond c from s → Course c.known (packets_of c.units) later s answers t
      → InOrder c.known c.splits c.units from answers
  course_in_order from [] s t answers beyond course = subst (InOrder c.known c.splits c.units from) (sym course.0) tt
  course_in_order from (steps.Send i ∷ later) s t answers beyond course = course_in_order from later s t answers beyond course
  course_in_order from (steps.Deliver k now ∷ later) s t answers beyond course =
      course_in_order from later course.1 t answers (beyond_fed from now course.0 s course.1 course.2 beyond) course.3
  course_in_order from (steps.Pop now ∷ later) s t answers beyond course =
      subst (InOrder c.known c.splits c.units from) (sym course.5)
      (turn_in_order from course.2 course.4 course.0 course.1 course.3 (beyond_raised from s course.2 course.6 beyond) course.7
      (λ n after. course_in_order n later course.4 t course.1 after course.8))
  course_in_order from (steps.Finish ∷ later) s t answers beyond course = course_in_order from later s t answers beyond course
