-- The first of a list that passes a test, and its place.
use Rattle.std.proofs.Common.{◌≡◌, ℕ, zero, suc, ◌+◌, ◌<◌, Bool, true, false, cond, not, nat_lt, List, [], ◌∷◌, get_or, set, length, Option, Some, None, refl, sym, ap, ◌∙◌, arith}
use Rattle.std.specs.Prelude.{is_some}
use Rattle.std.specs.List.{find, position, position_or_len, remove}
use Rattle.std.proofs.lemmas.Bool.{ltb-true}
use Rattle.std.proofs.lemmas.List.Quantifiers.{position-Some}
use Rattle.codec_payload_fec_port.specs.Firsts.{changed_first, without_first}

module _ {X : Type 0} (p : X → Bool) where
  -- none passes
  abbrev Fails : List X → Type 0
  Fails [] = Unit {0}
  Fails (x ∷ xs) = (p x ≡ false) × Fails xs

  first_place : (b : Bool) (m : ℕ) → nat_lt 0 (suc m) ≡ b → cond {A = Option ℕ} b (Some 0) None ≡ None → ⊥
  first_place true m l e = cc
  first_place false m l e = grind (arith, l)

  later_place : (n m : ℕ) (b : Bool) → nat_lt (1 + n) (suc m) ≡ b → nat_lt n m ≡ true → cond {A = Option ℕ} b (Some (1 + n)) None ≡ None → ⊥
  later_place n m true l h e = cc
  later_place n m false l h e = let lt = ltb-true n m h in grind (arith, l, lt)

  no_place : (b : Bool) (n m : ℕ) → cond (nat_lt (cond (not b) (1 + n) 0) (suc m)) (Some (cond (not b) (1 + n) 0)) None ≡ None → (b ≡ false) × (cond (nat_lt n m) (Some n) None ≡ None)
  no_place true n m e = absurd (first_place (nat_lt 0 (suc m)) m refl e)
  no_place false n m e = (refl, by (nat_lt n m) refl)
    where
      by : (b : Bool) → nat_lt n m ≡ b → cond b (Some n) None ≡ None
      by true l = absurd (later_place n m (nat_lt (1 + n) (suc m)) refl l e)
      by false l = refl

  fails : (xs : List X) → position p xs ≡ None → Fails xs
  fails [] e = tt
  fails (x ∷ xs) e = let h = no_place (p x) (position_or_len p xs) (length xs) e in (h.0, fails xs h.1)

  find_fails : (xs : List X) → Fails xs → find p xs ≡ None
  find_fails [] h = refl
  find_fails (x ∷ xs) h = ap (λ (b : Bool). cond b (Some x) (find p xs)) h.0 ∙ find_fails xs h.1

  pub find_none : (xs : List X) → position p xs ≡ None → find p xs ≡ None
  find_none xs e = find_fails xs (fails xs e)

  changed_fails : (f : X → X) (xs : List X) → Fails xs → changed_first p f xs ≡ xs
  changed_fails f [] h = refl
  changed_fails f (x ∷ xs) h = ap (λ (b : Bool). cond b (f x ∷ xs) (x ∷ changed_first p f xs)) h.0 ∙ ap (λ (ys : List X). x ∷ ys) (changed_fails f xs h.1)

  pub changed_none : (f : X → X) (xs : List X) → position p xs ≡ None → changed_first p f xs ≡ xs
  changed_none f xs e = changed_fails f xs (fails xs e)

  without_fails : (xs : List X) → Fails xs → without_first p xs ≡ xs
  without_fails [] h = refl
  without_fails (x ∷ xs) h = ap (λ (b : Bool). cond b xs (x ∷ without_first p xs)) h.0 ∙ ap (λ (ys : List X). x ∷ ys) (without_fails xs h.1)

  pub without_none : (xs : List X) → position p xs ≡ None → without_first p xs ≡ xs
  without_none xs e = without_fails xs (fails xs e)

  -- the one at place i is the first that passes
  abbrev IsFirst : List X → ℕ → X → Type 0
  IsFirst xs i d = (i < length xs) × (p (get_or xs i d) ≡ true) × ((k : ℕ) → k < i → p (get_or xs k d) ≡ false)

  later : (x : X) (xs : List X) (i : ℕ) (d : X) → IsFirst (x ∷ xs) (suc i) d → (p x ≡ false) × IsFirst xs i d
  later x xs i d h = (h.2 0 (omega arith), (omega (arith, h.0), h.1, λ k l. h.2 (suc k) (omega (arith, l))))

  find_first : (xs : List X) (i : ℕ) (d : X) → IsFirst xs i d → find p xs ≡ Some (get_or xs i d)
  find_first [] i d h = absurd (omega (arith, h.0))
  find_first (x ∷ xs) zero d h = ap (λ (b : Bool). cond b (Some x) (find p xs)) h.1
  find_first (x ∷ xs) (suc i) d h = let l = later x xs i d h in ap (λ (b : Bool). cond b (Some x) (find p xs)) l.0 ∙ find_first xs i d l.1

  pub find_some : (xs : List X) (i : ℕ) (d : X) → position p xs ≡ Some i → find p xs ≡ Some (get_or xs i d)
  find_some xs i d e = find_first xs i d (position-Some p xs i d e)

  set_first : (f : X → X) (xs : List X) (i : ℕ) (d : X) → IsFirst xs i d → set xs i (f (get_or xs i d)) ≡ changed_first p f xs
  set_first f [] i d h = absurd (omega (arith, h.0))
  set_first f (x ∷ xs) zero d h = sym (ap (λ (b : Bool). cond b (f x ∷ xs) (x ∷ changed_first p f xs)) h.1)
  set_first f (x ∷ xs) (suc i) d h =
      let l = later x xs i d h in
      ap (λ (ys : List X). x ∷ ys) (set_first f xs i d l.1) ∙ sym (ap (λ (b : Bool). cond b (f x ∷ xs) (x ∷ changed_first p f xs)) l.0)

  pub changed_some : (f : X → X) (xs : List X) (i : ℕ) (d : X) → position p xs ≡ Some i → set xs i (f (get_or xs i d)) ≡ changed_first p f xs
  changed_some f xs i d e = set_first f xs i d (position-Some p xs i d e)

  remove_first : (xs : List X) (i : ℕ) (d : X) → IsFirst xs i d → remove xs i ≡ without_first p xs
  remove_first [] i d h = absurd (omega (arith, h.0))
  remove_first (x ∷ xs) zero d h = sym (ap (λ (b : Bool). cond b xs (x ∷ without_first p xs)) h.1)
  remove_first (x ∷ xs) (suc i) d h =
      let l = later x xs i d h in
      ap (λ (ys : List X). x ∷ ys) (remove_first xs i d l.1) ∙ sym (ap (λ (b : Bool). cond b xs (x ∷ without_first p xs)) l.0)

  pub without_some : (xs : List X) (i : ℕ) (d : X) → position p xs ≡ Some i → remove xs i ≡ without_first p xs
  without_some xs i d e = remove_first xs i d (position-Some p xs i d e)

  pub known_some : (xs : List X) (i : ℕ) → position p xs ≡ Some i → true ≡ is_some (find p xs)
  known_some [] i e = absurd cc
  known_some (x ∷ xs) i e = sym (ap (λ (o : Option X). is_some o) (find_some (x ∷ xs) i x e))
