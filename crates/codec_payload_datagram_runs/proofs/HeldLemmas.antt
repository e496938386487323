-- What holds for each held packet holds after pushes and pops, and for the packets of a released unit.
use Rattle.std.proofs.Common.{◌≡◌, ◌≢◌, sym, ap, subst, ℕ, cond, inl, inr, List, [], ◌∷◌, ◌++◌, Option, Some, None, Ok, Err, length, ltb}
use Rattle.codec_payload_base.specs.declared.error.PacketError.TheVariants as faults
use Rattle.codec_payload_buffer.proofs.MemberLemmas.{IsIn}
use Rattle.codec_payload_buffer.specs.Held.{Held, above, between, number_of, placed}
use Rattle.codec_payload_buffer.specs.Steps.{Passes, PopsOver, State, is_dropped, kept_to_limit, metas_of, none, one_more, packets_of_frame, pushed, without_lowest}
use Rattle.codec_payload_buffer.specs.declared.buffer.frames.CompleteFrame.{CompleteFrame}
use Rattle.codec_payload_codec.proofs.CaseLemmas.{by_test}
use Rattle.codec_payload_buffer_runs.specs.Arrivals.{PopsWaiting}
use Rattle.codec_payload_buffer_runs.specs.Schedule.{Answer}

abbrev pub AllHeld : (Held → Type 0) → List Held → Type 0
AllHeld P [] = Unit {0}
AllHeld P (p ∷ ps) = P p × AllHeld P ps

pub all_joined : (P : Held → Type 0) (ps qs : List Held) → AllHeld P ps → AllHeld P qs → AllHeld P (ps ++ qs)
all_joined P [] qs a b = b
all_joined P (p ∷ ps) qs a b = (a.0, all_joined P ps qs a.1 b)

pub all_front : (P : Held → Type 0) (ps qs : List Held) → AllHeld P (ps ++ qs) → AllHeld P ps
all_front P [] qs all = tt
all_front P (p ∷ ps) qs all = (all.0, all_front P ps qs all.1)

pub all_in : (P : Held → Type 0) (hs : List Held) → AllHeld P hs → (p : Held) → IsIn p hs → P p
all_in P [] all p is = absurd is
all_in P (q ∷ qs) all p (inl same) = subst P (sym same) all.0
all_in P (q ∷ qs) all p (inr later) = all_in P qs all.1 p later

pub all_mapped : (P Q : Held → Type 0) → ((p : Held) → P p → Q p) → (hs : List Held) → AllHeld P hs → AllHeld Q hs
all_mapped P Q so [] all = tt
all_mapped P Q so (p ∷ ps) all = (so p all.0, all_mapped P Q so ps all.1)

module _ (P : Held → Type 0) where
  all_placed : (p : Held) (hs : List Held) → P p → AllHeld P hs → AllHeld P (placed p hs)
  all_placed p [] is all = (is, tt)
  all_placed p (q ∷ qs) is all =
      by_test (ltb q.meta.seq_no.0 p.meta.seq_no.0) (λ b. AllHeld P (cond b (q ∷ placed p qs) (p ∷ q ∷ qs))) (λ e. (all.0, all_placed p qs is all.1)) (λ e. (is, all))

  pub all_between : (first last : ℕ) (hs : List Held) → AllHeld P hs → AllHeld P (between first last hs)
  all_between first last [] all = tt
  all_between first last (p ∷ ps) all =
      let rest = all_between first last ps all.1 in
      by_test (ltb (number_of p) first) (λ b. AllHeld P (cond b (between first last ps) (cond (ltb last (number_of p)) (between first last ps) (p ∷ between first last ps)))) (λ e. rest)
      (λ e. by_test (ltb last (number_of p)) (λ b. AllHeld P (cond b (between first last ps) (p ∷ between first last ps))) (λ f. rest) (λ f. (all.0, rest)))

  pub all_above : (last : ℕ) (hs : List Held) → AllHeld P hs → AllHeld P (above last hs)
  all_above last [] all = tt
  all_above last (p ∷ ps) all =
      let rest = all_above last ps all.1 in
      by_test (ltb last (number_of p)) (λ b. AllHeld P (cond b (p ∷ above last ps) (above last ps))) (λ e. (all.0, rest)) (λ e. rest)

  all_without : (s : State) (hs : List Held) → AllHeld P hs → AllHeld P s.held → AllHeld P (without_lowest s hs).held
  all_without s [] all held = held
  all_without s (p ∷ ps) all held = all.1

  all_kept : (s : State) → AllHeld P s.held → AllHeld P (kept_to_limit s).held
  all_kept s all = by_test (ltb s.limit (length s.held)) (λ b. AllHeld P (cond b (without_lowest s s.held) s).held) (λ e. all_without s s.held all all) (λ e. all)

  -- a push
  pub all_pushed : (s : State) (p : Held) → P p → AllHeld P s.held → AllHeld P (pushed s p).held
  all_pushed s p is all =
      let more : State = record s { held = placed p s.held } in
      by_test (is_dropped s (number_of p)) (λ b. AllHeld P (cond b s (kept_to_limit more)).held) (λ e. all) (λ e. all_kept more (all_placed p s.held is all))

  -- a pop
  pub all_passed : (s t : State) (over : List CompleteFrame) → AllHeld P s.held → Passes s over t → AllHeld P t.held
  all_passed s t over all none = all
  all_passed s u over all (one_more {t = t} passes p) =
      subst (λ (x : State). AllHeld P x.held) (sym p.left) (all_above p.frame.last t.held (all_passed s t _ all passes))

-- P holds for each packet of the unit, if one is released
abbrev pub AnswerOf : (Held → Type 0) → Answer → Type 0
AnswerOf P None = Unit {0}
AnswerOf P (Some (Err fault)) = Unit {0}
AnswerOf P (Some (Ok r)) = (ps : List Held) × (r.metas ≡ metas_of ps) × AllHeld P ps

module _ (P : Held → Type 0) where
  all_popped : (s t : State) (over : List CompleteFrame) (a : Answer) → a ≢ Some (Err faults.OutOfMemory) → PopsOver s over a t → AllHeld P s.held → AnswerOf P a × AllHeld P t.held
  all_popped s t over None found pop all = (tt, all_passed P s t over all pop.0)
  all_popped s t over (Some (Ok r)) found pop all =
      let mid = all_passed P s pop.0 over all pop.1 in
      let out = pop.2 in (
        (packets_of_frame pop.0 out.frame, out.metas, all_between P out.frame.first out.frame.last pop.0.held mid),
        subst (λ (x : State). AllHeld P x.held) (sym out.left) (all_above P out.frame.last pop.0.held mid),
      )
  all_popped s t over (Some (Err fault)) found pop all =
      let mid = all_passed P s pop.0 over all pop.1 in (
        tt,
        elim pop.2 [
          | inl memory ↦ absurd (found (ap (λ f. Some (Err f)) memory.0))
          | inr refusal ↦ subst (λ (x : State). AllHeld P x.held) (sym refusal.left) (all_above P refusal.frame.last pop.0.held mid)
        ],
      )

  pub all_waiting : (wait : Option ℕ) (s t : State) (a : Answer) → PopsWaiting wait s a t → AllHeld P s.held → AnswerOf P a × AllHeld P t.held
  all_waiting None s t a pops all = (subst (AnswerOf P) (sym pops.0) tt, subst (λ (x : State). AllHeld P x.held) (sym pops.1) all)
  all_waiting (Some h) s t a pops all = all_popped (record s { hold_back = h }) t pops.1.0 a pops.0 pops.1.1 all
