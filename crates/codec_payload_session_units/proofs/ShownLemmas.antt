-- What answers of a session show of a stream, beside all calls of its receiver.
use Rattle.std.proofs.Common.{◌≡◌, ◌∙◌, refl, sym, ap, subst, ℕ, ◌+◌, inl, inr, List, [], ◌∷◌, Bool, true, false, not, Option, Some, None, Result, Ok, Err}
use Rattle.std.specs.declared.alloc.AllocError.{AllocError}
use Rattle.codec_payload_base.specs.declared.wire.Ticks.{Ticks}
use Rattle.codec_payload_buffer.proofs.MemberLemmas.{IsIn}
use Rattle.codec_payload_buffer_runs.specs.Headline.{InOrder}
use Rattle.codec_payload_buffer_runs.specs.Schedule.{Answer}
use Rattle.codec_payload_buffer_runs.specs.SentStream.{SentUnit}
use Rattle.codec_payload_datagram_runs.specs.Releases.{AreDeliveredBefore}
use Rattle.codec_payload_datagram_runs.specs.declared.run.DatagramStep.{DatagramStep}
use Rattle.codec_payload_datagram_runs.specs.declared.run.DatagramStep.TheVariants as steps
use Rattle.codec_payload_jitter.specs.declared.outcome.Outcome.{Outcome}
use Rattle.codec_payload_metadata.specs.Release.{Release}
use Rattle.codec_payload_metadata.specs.declared.meta.RtpMeta.{RtpMeta}
use Rattle.codec_payload_payloader.specs.Packets.{Packet}
use Rattle.codec_payload_receiver.specs.Pops.{answer_of}
use Rattle.codec_payload_receiver.specs.declared.pops.Popped.{Popped}
use Rattle.codec_payload_receiver.specs.declared.pops.Popped.TheVariants as popped
use Rattle.codec_payload_receiver.specs.declared.receiver.ReceiveError.{ReceiveError}
use Rattle.codec_payload_sending_history.specs.declared.retransmission.RetransmissionStream.{RetransmissionStream}
use Rattle.codec_payload_session_stream.specs.Streams.{is_no_memory}
use Rattle.codec_payload_session_runs.specs.Lives.{ReceiverCall, finishes, follows, pairs, pops, receives, reports, shown, waits, with_shown, notes}
use Rattle.codec_payload_session_units.specs.OneSender.{AreCopies, FoundMemory, answers_by, effective, steps_by}
use Rattle.codec_payload_session_units.specs.StreamUnits.{answered}

-- ---- copies

copies_if : (again : Option RetransmissionStream) (ds : List (List ℕ)) (b : Bool) (now : Ticks) (bytes : List ℕ) (answer : Result Outcome ReceiveError) (xs ys : List ReceiverCall) (ks : List ℕ)
    → ((ms : List ℕ) → AreCopies again ds xs ms → AreCopies again ds ys ms) → AreCopies again ds (with_shown b (receives now bytes answer) xs) ks
    → AreCopies again ds (with_shown b (receives now bytes answer) ys) ks
copies_if again ds false now bytes answer xs ys ks so copies = so ks copies
copies_if again ds true now bytes answer xs ys [] so copies = absurd copies
copies_if again ds true now bytes answer xs ys (k ∷ ks) so copies = (copies.0, so ks copies.1)

pub copies_shown : (again : Option RetransmissionStream) (ds : List (List ℕ)) (own : List ReceiverCall) (ks : List ℕ) → AreCopies again ds (shown own) ks → AreCopies again ds (effective own) ks
copies_shown again ds [] ks copies = copies
copies_shown again ds (receives now bytes answer ∷ cs) ks copies =
    copies_if again ds (not (is_no_memory answer)) now bytes answer (shown cs) (effective cs) ks (copies_shown again ds cs) copies
copies_shown again ds (pops now None ∷ cs) ks copies = copies_shown again ds cs ks copies
copies_shown again ds (pops now (Some told) ∷ cs) ks copies = copies_shown again ds cs ks copies
copies_shown again ds (finishes ∷ cs) ks copies = copies_shown again ds cs ks copies
copies_shown again ds (waits limits ∷ cs) ks copies = copies_shown again ds cs ks copies
copies_shown again ds (follows wait ∷ cs) ks copies = copies_shown again ds cs ks copies
copies_shown again ds (pairs r ∷ cs) ks copies = copies_shown again ds cs ks copies
copies_shown again ds (reports ∷ cs) ks copies = copies_shown again ds cs ks copies
copies_shown again ds (notes e ∷ cs) ks copies = copies_shown again ds cs ks copies

-- ---- answers

answers_if : (b : Bool) (now : Ticks) (bytes : List ℕ) (answer : Result Outcome ReceiveError) (xs : List ReceiverCall) → answers_by (with_shown b (receives now bytes answer) xs) ≡ answers_by xs
answers_if true now bytes answer xs = refl
answers_if false now bytes answer xs = refl

answered_some : (told : Result (Popped Release) AllocError) (rest : List Answer) → answered (answer_of (Some told) ∷ rest) ≡ answer_of (Some told) ∷ answered rest
answered_some (Ok (popped.Unit unit)) rest = refl
answered_some (Ok (popped.TooLarge unit)) rest = refl
answered_some (Ok (popped.Refused fault)) rest = refl
answered_some (Err e) rest = refl

pub shown_answers : (own : List ReceiverCall) → answers_by (shown own) ≡ answered (answers_by own)
shown_answers [] = refl
shown_answers (receives now bytes answer ∷ cs) = answers_if (not (is_no_memory answer)) now bytes answer (shown cs) ∙ shown_answers cs
shown_answers (pops now None ∷ cs) = shown_answers cs
shown_answers (pops now (Some told) ∷ cs) = ap (λ (as' : List Answer). answer_of (Some told) ∷ as') (shown_answers cs) ∙ sym (answered_some told (answers_by cs))
shown_answers (finishes ∷ cs) = shown_answers cs
shown_answers (waits limits ∷ cs) = shown_answers cs
shown_answers (follows wait ∷ cs) = shown_answers cs
shown_answers (pairs r ∷ cs) = shown_answers cs
shown_answers (reports ∷ cs) = shown_answers cs
shown_answers (notes e ∷ cs) = shown_answers cs

pub memory_shown : (answers : List Answer) → FoundMemory (answered answers) → FoundMemory answers
memory_shown [] memory = tt
memory_shown (None ∷ answers) memory = (λ e. absurd (cc), memory_shown answers memory)
memory_shown (Some told ∷ answers) memory = (memory.0, memory_shown answers memory.1)

pub order_answered : (known : ℕ → Packet → RtpMeta → Type 0) (splits : Bool) (units : List SentUnit) (from : ℕ) (answers : List Answer)
    → InOrder known splits units from answers → InOrder known splits units from (answered answers)
order_answered known splits units from [] order = tt
order_answered known splits units from (None ∷ answers) order = order_answered known splits units from answers order
order_answered known splits units from (Some (Ok r) ∷ answers) order = (order.0, order.1, order.2, order_answered known splits units (order.0 + 1) answers order.3)
order_answered known splits units from (Some (Err fault) ∷ answers) order = absurd order

-- ---- steps

-- what the steps of shown calls keep
abbrev Before : List DatagramStep → List ReceiverCall → List ReceiverCall → List Answer → List Answer → Type 0
Before before xs ys olds news = (ks : List ℕ) → AreDeliveredBefore before (steps_by xs ks) olds → AreDeliveredBefore before (steps_by ys ks) news

before_if : (b : Bool) (before : List DatagramStep) (now : Ticks) (bytes : List ℕ) (answer : Result Outcome ReceiveError) (xs ys : List ReceiverCall) (olds news : List Answer)
    → ((more : List DatagramStep) → Before more xs ys olds news) → Before before (with_shown b (receives now bytes answer) xs) (with_shown b (receives now bytes answer) ys) olds news
before_if false before now bytes answer xs ys olds news so ks had = so before ks had
before_if true before now bytes answer xs ys olds news so [] had = so before [] had
before_if true before now bytes answer xs ys olds news so (k ∷ ks) had = so (steps.Deliver k now ∷ before) ks had

pub before_shown : (own : List ReceiverCall) (before : List DatagramStep) (ks : List ℕ) → AreDeliveredBefore before (steps_by (effective own) ks) (answers_by own)
    → AreDeliveredBefore before (steps_by (shown own) ks) (answered (answers_by own))
before_shown [] before ks had = tt
before_shown (receives now bytes answer ∷ cs) before ks had =
    before_if (not (is_no_memory answer)) before now bytes answer (effective cs) (shown cs) (answers_by cs) (answered (answers_by cs)) (λ more ms. before_shown cs more ms) ks had
before_shown (pops now None ∷ cs) before ks had = before_shown cs before ks had.1
before_shown (pops now (Some told) ∷ cs) before ks had =
    subst (λ (as' : List Answer). AreDeliveredBefore before (steps.Pop now ∷ steps_by (shown cs) ks) as') (sym (answered_some told (answers_by cs))) (had.0, before_shown cs before ks had.1)
before_shown (finishes ∷ cs) before ks had = before_shown cs before ks had
before_shown (waits limits ∷ cs) before ks had = before_shown cs before ks had
before_shown (follows wait ∷ cs) before ks had = before_shown cs before ks had
before_shown (pairs r ∷ cs) before ks had = before_shown cs before ks had
before_shown (reports ∷ cs) before ks had = before_shown cs before ks had
before_shown (notes e ∷ cs) before ks had = before_shown cs before ks had

-- each delivery is shown
among_if : (b : Bool) (step : DatagramStep) (now : Ticks) (bytes : List ℕ) (answer : Result Outcome ReceiveError) (xs ys : List ReceiverCall) (ks : List ℕ)
    → ((ms : List ℕ) → IsIn step (steps_by xs ms) → IsIn step (steps_by ys ms)) → IsIn step (steps_by (with_shown b (receives now bytes answer) xs) ks)
    → IsIn step (steps_by (with_shown b (receives now bytes answer) ys) ks)
among_if false step now bytes answer xs ys ks so is = so ks is
among_if true step now bytes answer xs ys [] so is = so [] is
among_if true step now bytes answer xs ys (k ∷ ks) so (inl here) = inl here
among_if true step now bytes answer xs ys (k ∷ ks) so (inr later) = inr (so ks later)

pub delivery_shown : (own : List ReceiverCall) (k : ℕ) (at : Ticks) (ks : List ℕ) → IsIn (steps.Deliver k at) (steps_by (effective own) ks) → IsIn (steps.Deliver k at) (steps_by (shown own) ks)
delivery_shown [] k at ks is = is
delivery_shown (receives now bytes answer ∷ cs) k at ks is =
    among_if (not (is_no_memory answer)) (steps.Deliver k at) now bytes answer (effective cs) (shown cs) ks (λ ms. delivery_shown cs k at ms) is
delivery_shown (pops now None ∷ cs) k at ks (inl here) = absurd (cc)
delivery_shown (pops now None ∷ cs) k at ks (inr later) = delivery_shown cs k at ks later
delivery_shown (pops now (Some told) ∷ cs) k at ks (inl here) = absurd (cc)
delivery_shown (pops now (Some told) ∷ cs) k at ks (inr later) = inr (delivery_shown cs k at ks later)
delivery_shown (finishes ∷ cs) k at ks (inl here) = absurd (cc)
delivery_shown (finishes ∷ cs) k at ks (inr later) = delivery_shown cs k at ks later
delivery_shown (waits limits ∷ cs) k at ks is = delivery_shown cs k at ks is
delivery_shown (follows wait ∷ cs) k at ks is = delivery_shown cs k at ks is
delivery_shown (pairs r ∷ cs) k at ks is = delivery_shown cs k at ks is
delivery_shown (reports ∷ cs) k at ks is = delivery_shown cs k at ks is
delivery_shown (notes e ∷ cs) k at ks is = delivery_shown cs k at ks is
