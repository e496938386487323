-- A pop of a run over datagrams releases packets that were delivered before it.
use Rattle.std.proofs.Common.{sym, ap, subst, ℕ, List, [], ◌∷◌, Bool, true, Option, Some, None, Ok, Err, inl, inr}
use Rattle.codec_payload_base.specs.declared.wire.Ticks.{Ticks}
use Rattle.codec_payload_buffer.specs.Held.{Held}
use Rattle.codec_payload_buffer.specs.Steps.{State, arrived, metas_of, pushed}
use Rattle.codec_payload_buffer_runs.specs.Arrivals.{Event, Meets, PopsWaiting}
use Rattle.codec_payload_buffer_runs.specs.Schedule.{Answer}
use Rattle.codec_payload_payloader.specs.Packets.{Packet}
use Rattle.codec_payload_datagram_runs.proofs.EventLemmas.{Brings}
use Rattle.codec_payload_datagram_runs.proofs.HeldLemmas.{AllHeld, AnswerOf, all_mapped, all_pushed, all_waiting}
use Rattle.codec_payload_datagram_runs.specs.Releases.{AreDeliveredBefore, AreOfDeliveries, IsOfDeliveries, WasDelivered}
use Rattle.codec_payload_datagram_runs.specs.declared.run.DatagramStep.{DatagramStep}
use Rattle.codec_payload_datagram_runs.specs.declared.run.DatagramStep.TheVariants as steps

-- the steps delivered all of these packets
abbrev pub AllIn : List DatagramStep → List Held → Type 0
AllIn before = AllHeld (λ (p : Held). WasDelivered before p.meta)

metas_in : (before : List DatagramStep) (ps : List Held) → AllIn before ps → AreOfDeliveries before (metas_of ps)
metas_in before [] all = tt
metas_in before (p ∷ ps) all = (all.0, metas_in before ps all.1)

answer_in : (before : List DatagramStep) (a : Answer) → AnswerOf (λ (p : Held). WasDelivered before p.meta) a → IsOfDeliveries before a
answer_in before None in_before = tt
answer_in before (Some (Err fault)) in_before = tt
answer_in before (Some (Ok r)) in_before = subst (AreOfDeliveries before) (sym in_before.1) (metas_in before in_before.0 in_before.2)

pub one_more_step : (step : DatagramStep) (before : List DatagramStep) (ps : List Held) → AllIn before ps → AllIn (step ∷ before) ps
one_more_step step before ps all =
    all_mapped (λ (p : Held). WasDelivered before p.meta) (λ (p : Held). WasDelivered (step ∷ before) p.meta) (λ p was. (was.0, inr was.1)) ps all

-- a push
pub in_pushed : (before : List DatagramStep) (s : State) (p : Held) → WasDelivered before p.meta → AllIn before s.held → AllIn before (pushed s p).held
in_pushed before = all_pushed (λ (p : Held). WasDelivered before p.meta)

-- a pop
pub in_waiting : (before : List DatagramStep) (wait : Option ℕ) (s t : State) (a : Answer) → PopsWaiting wait s a t → AllIn before s.held → IsOfDeliveries before a × AllIn before t.held
in_waiting before wait s t a pops all =
    let after = all_waiting (λ (p : Held). WasDelivered before p.meta) wait s t a pops all in
    (answer_in before a after.0, after.1)

-- each pop of the remaining steps
pub delivered_before : (clock_rate : ℕ) (packets : List Packet) (at_end : Bool) (later before : List DatagramStep) (events : List Event) (s t : State) (answers : List Answer)
    → Brings at_end later events → Meets clock_rate packets events s answers t → AllIn before s.held → AreDeliveredBefore before later answers
delivered_before clock_rate packets at_end [] before events s t answers brings meets all = tt
delivered_before clock_rate packets at_end (steps.Send i ∷ later) before events s t answers brings meets all =
    delivered_before clock_rate packets at_end later before events s t answers brings meets all
delivered_before clock_rate packets at_end (steps.Finish ∷ later) before events s t answers brings meets all =
    delivered_before clock_rate packets true later before events s t answers brings meets all
delivered_before clock_rate packets at_end (steps.Deliver k now ∷ later) before events s t answers brings meets all =
    let met = subst (λ (es : List Event). Meets clock_rate packets es s answers t) brings.2 meets in
    let here : WasDelivered (steps.Deliver k now ∷ before) brings.0 = (k, inl (ap (λ (at : Ticks). steps.Deliver k at) (sym brings.3))) in
    delivered_before clock_rate packets at_end later (steps.Deliver k now ∷ before) brings.1 (pushed s (arrived s.depacketizer brings.0 met.0.payload)) t answers brings.4 met.3
    (in_pushed (steps.Deliver k now ∷ before) s (arrived s.depacketizer brings.0 met.0.payload) here (one_more_step (steps.Deliver k now) before s.held all))
delivered_before clock_rate packets at_end (steps.Pop now ∷ later) before events s t answers brings meets all =
    let met = subst (λ (es : List Event). Meets clock_rate packets es s answers t) brings.2 meets in
    let pop = in_waiting before brings.0 s met.2 met.0 met.4 all in
    subst (AreDeliveredBefore before (steps.Pop now ∷ later)) (sym met.3)
    (pop.0, delivered_before clock_rate packets at_end later before brings.1 met.2 t met.1 brings.4 met.5 pop.1)
