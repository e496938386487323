-- The numbers that are protected, and the packets that came.
use Rattle.std.proofs.Common.{◌≡◌, ℕ, zero, suc, ◌+◌, ◌-◌, ◌<◌, true, false, List, [], ◌∷◌, ◌++◌, Option, Some, None, refl, sym, ap, ◌∙◌, arith, append_assoc, add-one, add-zero}
use Rattle.std.specs.Prelude.{option_to_list, is_some}
use Rattle.std.proofs.lemmas.List.{append-nil}
use Rattle.codec_payload_fec.specs.Fec.{Fec, if_set, is_set, mask_of, number_at, numbers, numbers_in}
use Rattle.codec_payload_fec.specs.Rebuilding.{are_none, found_of, missing_of, only, to_list}
use Rattle.codec_payload_fec.specs.Strings.{BitString, added, added_all}

pub numbers_none : (mask base : ℕ) → numbers_in 0 mask base ≡ []
unfolding numbers_in
numbers_none mask base = refl

pub numbers_suc : (n mask base : ℕ) → numbers_in (suc n) mask base ≡ numbers_in n mask base ++ if_set (is_set n mask) (number_at n base)
unfolding numbers_in
numbers_suc n mask base = refl

pub numbers_more : (n mask base : ℕ) → numbers_in (n + 1) mask base ≡ numbers_in n mask base ++ if_set (is_set n mask) (number_at n base)
numbers_more n mask base = rw add-one (numbers_suc n mask base)

-- the numbers of more places begin with those of fewer
pub numbers_front : (d n mask base : ℕ) → (rest : List ℕ) × (numbers_in (n + d) mask base ≡ numbers_in n mask base ++ rest)
numbers_front zero n mask base = ([], ap (λ (k : ℕ). numbers_in k mask base) (add-zero n) ∙ sym (append-nil (numbers_in n mask base)))
numbers_front (suc d) n mask base =
    let front = numbers_front d n mask base in
    let more : List ℕ = if_set (is_set (n + d) mask) (number_at (n + d) base) in
    let place : n + suc d ≡ suc (n + d) = omega arith in
    (front.0 ++ more, ap (λ (k : ℕ). numbers_in k mask base) place ∙ numbers_suc (n + d) mask base ∙ ap (λ (ns : List ℕ). ns ++ more) front.1 ∙ append_assoc (numbers_in n mask base) front.0 more)

pub missing_append : (find : ℕ → Option (List ℕ)) (xs ys : List ℕ) → missing_of find (xs ++ ys) ≡ missing_of find xs ++ missing_of find ys
missing_append find [] ys = refl
missing_append find (x ∷ xs) ys = simp (missing_append find xs ys, append_assoc)

pub found_append : (find : ℕ → Option (List ℕ)) (xs ys : List ℕ) → found_of find (xs ++ ys) ≡ found_of find xs ++ found_of find ys
found_append find [] ys = refl
found_append find (x ∷ xs) ys = simp (found_append find xs ys, append_assoc)

pub added_append : (ps qs : List (List ℕ)) (a : BitString) → added_all (ps ++ qs) a ≡ added_all qs (added_all ps a)
added_append [] qs a = refl
added_append (p ∷ ps) qs a = added_append ps qs (added p a)

module _ (find : ℕ → Option (List ℕ)) (n mask base : ℕ) where
  here : List ℕ
  here = if_set (is_set n mask) (number_at n base)

  -- one more place
  pub missing_more : (before : Option ℕ) (at : Option ℕ) → option_to_list before ≡ missing_of find (numbers_in n mask base) → option_to_list at ≡ missing_of find (if_set (is_set n mask) (number_at n base))
      → option_to_list before ++ option_to_list at ≡ missing_of find (numbers_in (n + 1) mask base)
  missing_more before at e h =
      rw (e, h) (sym (missing_append find (numbers_in n mask base) (if_set (is_set n mask) (number_at n base))) ∙ ap (missing_of find) (sym (numbers_more n mask base)))

  -- two numbers are missing
  pub missing_two : (a b : ℕ) → n < 48 → a ∷ [] ≡ missing_of find (numbers_in n mask base) → b ∷ [] ≡ missing_of find (if_set (is_set n mask) (number_at n base)) → only (missing_of find (numbers_in 48 mask base)) ≡ None
  missing_two a b small e h =
      let front = numbers_front (47 - n) (n + 1) mask base in
      let place : (n + 1) + (47 - n) ≡ 48 = omega (arith, small) in
      let two : missing_of find (numbers_in (n + 1) mask base) ≡ a ∷ b ∷ [] = sym (missing_more (Some a) (Some b) e h) in
      let all : missing_of find (numbers_in 48 mask base) ≡ a ∷ b ∷ missing_of find front.0 =
      ap (λ (k : ℕ). missing_of find (numbers_in k mask base)) (sym place) ∙ ap (missing_of find) front.1 ∙ missing_append find (numbers_in (n + 1) mask base) front.0 ∙ ap (λ (ns : List ℕ). ns ++ missing_of find front.0) two in
      ap only all

  pub added_more : (at : Option (List ℕ)) (start before : BitString) → before ≡ added_all (found_of find (numbers_in n mask base)) start → to_list at ≡ found_of find (if_set (is_set n mask) (number_at n base))
      → added_all (to_list at) before ≡ added_all (found_of find (numbers_in (n + 1) mask base)) start
  added_more at start before e h =
      rw (e, h) (sym (added_append (found_of find (numbers_in n mask base)) (found_of find (if_set (is_set n mask) (number_at n base))) start)
      ∙ ap (λ (ps : List (List ℕ)). added_all ps start) (sym (found_append find (numbers_in n mask base) (if_set (is_set n mask) (number_at n base))) ∙ ap (found_of find) (sym (numbers_more n mask base))))

  pub missing_twice : (before : Option ℕ) (b : ℕ) → is_some before ≡ true → n < 48 → option_to_list before ≡ missing_of find (numbers_in n mask base) → b ∷ [] ≡ missing_of find (if_set (is_set n mask) (number_at n base))
      → None ≡ only (missing_of find (numbers_in 48 mask base))
  missing_twice None b is small e h = absurd cc
  missing_twice (Some a) b is small e h = sym (missing_two a b small e h)

  -- a number is missing
  pub missing_some : (b : ℕ) → n < 48 → [] ≡ missing_of find (numbers_in n mask base) → b ∷ [] ≡ missing_of find (if_set (is_set n mask) (number_at n base))
      → are_none (missing_of find (numbers_in 48 mask base)) ≡ false
  missing_some b small e h =
      let front = numbers_front (47 - n) (n + 1) mask base in
      let place : (n + 1) + (47 - n) ≡ 48 = omega (arith, small) in
      let one : missing_of find (numbers_in (n + 1) mask base) ≡ b ∷ [] = sym (missing_more None (Some b) e h) in
      let all : missing_of find (numbers_in 48 mask base) ≡ b ∷ missing_of find front.0 =
      ap (λ (k : ℕ). missing_of find (numbers_in k mask base)) (sym place) ∙ ap (missing_of find) front.1 ∙ missing_append find (numbers_in (n + 1) mask base) front.0 ∙ ap (λ (ns : List ℕ). ns ++ missing_of find front.0) one in
      ap are_none all

-- one number was missing at most
pub missing_once : (before : Option ℕ) (number : ℕ) → is_some before ≡ false → number ∷ [] ≡ option_to_list before ++ number ∷ []
missing_once None number is = refl
missing_once (Some a) number is = absurd cc

pub only_list : (o : Option ℕ) → only (option_to_list o) ≡ o
only_list None = refl
only_list (Some n) = refl

pub numbers_are : (f : Fec) → numbers f ≡ numbers_in 48 (mask_of f.mask f.continued) f.base
unfolding numbers
numbers_are f = refl
