-- A pop that finds no frame to take has no unit, and changes nothing, whatever it may answer.
use Rattle.std.proofs.Common.{◌≡◌, ◌∙◌, refl, ap, sym, subst, ℕ, List, [], Option, Some, None, Result, Ok, Err, inl, inr, length, arith}
use Rattle.codec_payload_base.specs.declared.error.PacketError.{PacketError}
use Rattle.codec_payload_buffer.specs.Leaving.{left_of, packets_in}
use Rattle.codec_payload_metadata.specs.Release.{Release}
use Rattle.codec_payload_buffer.specs.Steps.{Passes, Pops, State, TakesFrame, due_of, none, one_more}
use Rattle.codec_payload_buffer.specs.declared.buffer.frames.CompleteFrame.{CompleteFrame}
use Rattle.codec_payload_buffer.specs.declared.buffer.leaving.Left.{Left}
use Rattle.codec_payload_buffer.proofs.PopLemmas.{nothing_passed}
use Rattle.codec_payload_jitter.specs.Receiving.{PopsWith, Receiving, counted_pop, settled, waiting_at}
use Rattle.codec_payload_jitter.proofs.PressureLemmas.{settled_holds}
use Rattle.codec_payload_session_stream.specs.Quiet.{PopsNothing}
use Rattle.codec_payload_session_stream.proofs.RestLemmas.{IsSameOrFewer, passes_same}

-- ---- the buffer

passes_none : (s t : State) (over : List CompleteFrame) → due_of s ≡ None → Passes s over t → (over ≡ []) × (t ≡ s)
passes_none s t over waits none = (refl, refl)
passes_none s u over waits (one_more {t = t} before p) = absurd (nothing_passed s t _ p.frame waits before p.is_due)

abbrev no_left : Left
no_left = record { incomplete = 0; skipped = 0; refused = 0 }

-- nothing leaves
none_left : (l : Left) → l.incomplete ≡ 0 → l.skipped ≡ 0 → l.refused ≡ 0 → l ≡ no_left
none_left l one two three =
    ap (λ (n : ℕ). left n l.skipped l.refused) one ∙ (ap (λ (n : ℕ). left 0 n l.refused) two ∙ ap (λ (n : ℕ). left 0 0 n) three)
  where
    left : ℕ → ℕ → ℕ → Left
    left i k f = record { incomplete = i; skipped = k; refused = f }

pops_none : (s t : State) (pops : Pops s None t) → due_of s ≡ None → (t ≡ s) × (left_of s None t pops ≡ no_left)
pops_none s t pops waits =
    let same = passes_none s t pops.0 waits pops.1.0 in
    let held : length t.held ≡ length s.held = ap (λ (x : State). length x.held) same.1 in
    let skipped : packets_in pops.0 s.held ≡ 0 = ap (λ (fs : List CompleteFrame). packets_in fs s.held) same.0 in
    (same.1, none_left (left_of s None t pops) (omega (arith)) skipped refl)

-- nothing is taken
takes_none : (s mid t : State) (over : List CompleteFrame) (answer : Result Release PacketError) → due_of s ≡ None → Passes s over mid → TakesFrame mid answer t → ⊥
takes_none s mid t over (Ok r) waits passes takes = nothing_passed s mid over takes.frame waits passes takes.is_due
takes_none s mid t over (Err fault) waits passes (inl stall) = nothing_passed s mid over stall.1.frame waits passes stall.1.is_due
takes_none s mid t over (Err fault) waits passes (inr out) = nothing_passed s mid over out.frame waits passes out.is_due

-- ---- the jitter buffer

-- no frame is due, if a pop changes nothing
none_due : (h : ℕ) (r : Receiving) → PopsWith (Some h) (settled r) None r → due_of (record (settled r).buffer { hold_back = h }) ≡ None
none_due h r nothing = by_pass (passes_same (record (settled r).buffer { hold_back = h }) nothing.0 nothing.1.0 nothing.1.1.0)
  where
    by_pass : IsSameOrFewer (record (settled r).buffer { hold_back = h }) nothing.0 → due_of (record (settled r).buffer { hold_back = h }) ≡ None
    by_pass (inl stays) = subst (λ (x : State). due_of x ≡ None) stays nothing.1.1.1
    by_pass (inr fewer) =
        let held : length r.buffer.held ≡ length nothing.0.held = ap (λ (x : Receiving). length x.buffer.held) nothing.2 in
        absurd (omega (arith, fewer, held, settled_holds r))

abbrev popped : Receiving → State → Left → Receiving
popped r s l = record (settled r) { buffer = s; counters = counted_pop (settled r).counters 0 0 l }

-- a pop without a unit then leaves what is known
popped_is : (h : ℕ) (r t : Receiving) (waits : due_of (record (settled r).buffer { hold_back = h }) ≡ None) → PopsWith (Some h) (settled r) None t
    → t ≡ popped r (record (settled r).buffer { hold_back = h }) no_left
popped_is h r t waits pops =
    let s : State = record (settled r).buffer { hold_back = h } in
    let is = pops_none s pops.0 pops.1 waits in
    pops.2 ∙ (ap (λ (x : State). popped r x (left_of s None pops.0 pops.1)) is.0 ∙ ap (λ (l : Left). popped r s l) is.1)

by_wait : (wait : Option ℕ) (r t : Receiving) (answer : Option (Result Release PacketError)) → PopsWith wait (settled r) None r → PopsWith wait (settled r) answer t → (answer ≡ None) × (t ≡ r)
by_wait None r t answer nothing pops = (pops.0, pops.1 ∙ sym nothing.1)
by_wait (Some h) r t None nothing pops =
    let waits : due_of (record (settled r).buffer { hold_back = h }) ≡ None = none_due h r nothing in
    (refl, popped_is h r t waits pops ∙ sym (popped_is h r r waits nothing))
by_wait (Some h) r t (Some answer) nothing pops =
    absurd (takes_none (record (settled r).buffer { hold_back = h }) pops.1.1.0 pops.0 pops.1.0 answer (none_due h r nothing) pops.1.1.1 pops.1.1.2)

pub pops_same : (now : ℕ) (r t : Receiving) (answer : Option (Result Release PacketError)) → PopsNothing now r → PopsWith (waiting_at (settled r) now) (settled r) answer t → (answer ≡ None) × (t ≡ r)
pops_same now r t answer nothing pops = by_wait (waiting_at (settled r) now) r t answer nothing pops
