-- The meaning of a line, from the facts about each form.
use Rattle.std.proofs.Common.{◌≡◌, ℕ, List, [], ◌∷◌, codes, Option, Some, None, Result, Ok, Err, ap, inl, inr}
use Rattle.std.specs.Prelude.{IfOk}
use Rattle.codec_payload_core.specs.declared.schedule.Step.TheVariants.{Pop}
use Rattle.payload_vectors.specs.Line.{HasForm, IsCodec, IsLimit, IsPush, IsRed, IsSample, IsSend, Says}
use Rattle.payload_vectors.specs.declared.line.Line.{Line}
use Rattle.payload_vectors.specs.declared.line.Line.TheVariants as lines

-- the forms cover all fields
pub Says-from_forms : (fields : List (List ℕ)) (found : Option Line)
    → (fields ≡ codes "pop" ∷ [] → found ≡ Some (lines.Step Pop))
    → ((packet : List ℕ) → fields ≡ codes "push" ∷ packet ∷ [] → IsPush packet found)
    → ((packets : List ℕ) → fields ≡ codes "limit" ∷ packets ∷ [] → IsLimit packets found)
    → ((sample mtu : List ℕ) → fields ≡ codes "send" ∷ sample ∷ mtu ∷ [] → IsSend sample mtu found)
    → ((time talk_spurt hex : List ℕ) → fields ≡ codes "sample" ∷ time ∷ talk_spurt ∷ hex ∷ []
    → IsSample time talk_spurt hex found)
    → ((step budget distances : List ℕ) → fields ≡ codes "red" ∷ step ∷ budget ∷ distances ∷ [] → IsRed step budget distances found)
    → ((name rate hold_back number id : List ℕ)
    → fields ≡ codes "codec" ∷ name ∷ rate ∷ hold_back ∷ number ∷ id ∷ []
    → IsCodec name rate hold_back number id found)
    → (¬ HasForm fields → found ≡ None)
    → Says fields found
Says-from_forms [] found pop push limit send sample red codec other = other (λ form. form)
Says-from_forms (word ∷ []) found pop push limit send sample red codec other =
    (λ same. pop (ap (λ (w : List ℕ). w ∷ []) same), other)
Says-from_forms (word ∷ a ∷ []) found pop push limit send sample red codec other = (
  λ same. push a (ap (λ (w : List ℕ). w ∷ a ∷ []) same),
  λ same. limit a (ap (λ (w : List ℕ). w ∷ a ∷ []) same),
  λ no_push no_limit. other (λ form. elim form [ inl is ↦ no_push is | inr is ↦ no_limit is ]),
)
Says-from_forms (word ∷ a ∷ b ∷ []) found pop push limit send sample red codec other =
    (λ same. send a b (ap (λ (w : List ℕ). w ∷ a ∷ b ∷ []) same), other)
Says-from_forms (word ∷ a ∷ b ∷ c ∷ []) found pop push limit send sample red codec other = (
  λ same. sample a b c (ap (λ (w : List ℕ). w ∷ a ∷ b ∷ c ∷ []) same),
  λ same. red a b c (ap (λ (w : List ℕ). w ∷ a ∷ b ∷ c ∷ []) same),
  λ no_sample no_red. other (λ form. elim form [ inl is ↦ no_sample is | inr is ↦ no_red is ]),
)
Says-from_forms (word ∷ a ∷ b ∷ c ∷ d ∷ []) found pop push limit send sample red codec other = other (λ form. form)
Says-from_forms (word ∷ a ∷ b ∷ c ∷ d ∷ e ∷ []) found pop push limit send sample red codec other =
    (λ same. codec a b c d e (ap (λ (w : List ℕ). w ∷ a ∷ b ∷ c ∷ d ∷ e ∷ []) same), other)
Says-from_forms (word ∷ a ∷ b ∷ c ∷ d ∷ e ∷ f ∷ more) found pop push limit send sample red codec other = other (λ form. form)

-- the same of what a call gave
pub IfOk-Says : {E : Type 0} (fields : List (List ℕ)) (given : Result (Option Line) E)
    → (fields ≡ codes "pop" ∷ [] → IfOk given (λ found. found ≡ Some (lines.Step Pop)))
    → ((packet : List ℕ) → fields ≡ codes "push" ∷ packet ∷ [] → IfOk given (IsPush packet))
    → ((packets : List ℕ) → fields ≡ codes "limit" ∷ packets ∷ [] → IfOk given (IsLimit packets))
    → ((sample mtu : List ℕ) → fields ≡ codes "send" ∷ sample ∷ mtu ∷ [] → IfOk given (IsSend sample mtu))
    → ((time talk_spurt hex : List ℕ) → fields ≡ codes "sample" ∷ time ∷ talk_spurt ∷ hex ∷ []
    → IfOk given (IsSample time talk_spurt hex))
    → ((step budget distances : List ℕ) → fields ≡ codes "red" ∷ step ∷ budget ∷ distances ∷ [] → IfOk given (IsRed step budget distances))
    → ((name rate hold_back number id : List ℕ)
    → fields ≡ codes "codec" ∷ name ∷ rate ∷ hold_back ∷ number ∷ id ∷ []
    → IfOk given (IsCodec name rate hold_back number id))
    → (¬ HasForm fields → IfOk given (λ found. found ≡ None))
    → IfOk given (Says fields)
IfOk-Says fields (Ok found) pop push limit send sample red codec other =
    Says-from_forms fields found pop push limit send sample red codec other
IfOk-Says fields (Err e) pop push limit send sample red codec other = tt
