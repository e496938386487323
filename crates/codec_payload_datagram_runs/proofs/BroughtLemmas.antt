-- Each pop returns packets that were delivered before it, under their numbers.
use Rattle.std.proofs.Common.{◌≡◌, ◌∙◌, sym, subst, ℕ, ◌+◌, inl, inr, List, [], ◌∷◌, Bool, true, Some, None, Ok, Err}
use Rattle.codec_payload_buffer.specs.Held.{Held}
use Rattle.codec_payload_buffer.specs.Steps.{State, arrived, metas_of, pushed}
use Rattle.codec_payload_buffer_runs.proofs.order.SafetyLemmas.{number_at}
use Rattle.codec_payload_buffer_runs.specs.Arrivals.{Event, Meets}
use Rattle.codec_payload_buffer_runs.specs.Schedule.{Answer}
use Rattle.codec_payload_payloader.specs.Packets.{AreNumbered, Packet}
use Rattle.codec_payload_datagram_runs.proofs.EventLemmas.{Brings}
use Rattle.codec_payload_datagram_runs.proofs.HeldLemmas.{AllHeld, AnswerOf, all_mapped, all_pushed, all_waiting}
use Rattle.codec_payload_datagram_runs.specs.Deliveries.{AreBrought, Delivery, IsBrought, IsOfBrought, PopsAreBrought, brought_by}
use Rattle.codec_payload_datagram_runs.specs.declared.run.DatagramStep.{DatagramStep}
use Rattle.codec_payload_datagram_runs.specs.declared.run.DatagramStep.TheVariants as steps

-- the packet was delivered
abbrev pub Came : List Delivery → Held → Type 0
Came ds p = IsBrought ds p.meta

metas_came : (ds : List Delivery) (ps : List Held) → AllHeld (Came ds) ps → AreBrought ds (metas_of ps)
metas_came ds [] all = tt
metas_came ds (p ∷ ps) all = (all.0, metas_came ds ps all.1)

answer_came : (ds : List Delivery) (a : Answer) → AnswerOf (Came ds) a → IsOfBrought ds a
answer_came ds None came = tt
answer_came ds (Some (Err fault)) came = tt
answer_came ds (Some (Ok r)) came = subst (AreBrought ds) (sym came.1) (metas_came ds came.0 came.2)

-- each pop of the remaining steps, and what is held in the end
pub pops_came : (rate first : ℕ) (packets : List Packet) → AreNumbered first packets → (at_end : Bool) (later : List DatagramStep) (before : List Delivery) (events : List Event) (s t : State)
    (answers : List Answer) → Brings at_end later events → Meets rate packets events s answers t → AllHeld (Came before) s.held
    → PopsAreBrought first before later answers × AllHeld (Came (brought_by first before later)) t.held
pops_came rate first packets numbered at_end [] before events s t answers brings meets all =
    let met = subst (λ (es : List Event). Meets rate packets es s answers t) brings meets in
    (tt, subst (λ (x : State). AllHeld (Came before) x.held) (sym met.1) all)
pops_came rate first packets numbered at_end (steps.Send i ∷ later) before events s t answers brings meets all =
    pops_came rate first packets numbered at_end later before events s t answers brings meets all
pops_came rate first packets numbered at_end (steps.Finish ∷ later) before events s t answers brings meets all =
    pops_came rate first packets numbered true later before events s t answers brings meets all
pops_came rate first packets numbered at_end (steps.Deliver k now ∷ later) before events s t answers brings meets all =
    let met = subst (λ (es : List Event). Meets rate packets es s answers t) brings.2 meets in
    let p : Held = arrived s.depacketizer brings.0 met.0.payload in
    let more : List Delivery = record { number = first + k; at = now } ∷ before in
    let number : brings.0.seq_no.0 ≡ first + k = met.2.number ∙ number_at packets first k met.0 numbered met.1 in
    pops_came rate first packets numbered at_end later more brings.1 (pushed s p) t answers brings.4 met.3
    (all_pushed (Came more) s p (inl (number, brings.3)) (all_mapped (Came before) (Came more) (λ q came. inr came) s.held all))
pops_came rate first packets numbered at_end (steps.Pop now ∷ later) before events s t answers brings meets all =
    let met = subst (λ (es : List Event). Meets rate packets es s answers t) brings.2 meets in
    let pop = all_waiting (Came before) brings.0 s met.2 met.0 met.4 all in
    let rest = pops_came rate first packets numbered at_end later before brings.1 met.2 t met.1 brings.4 met.5 pop.1 in
    (subst (PopsAreBrought first before (steps.Pop now ∷ later)) (sym met.3) (answer_came before met.0 pop.0, rest.0), rest.1)
