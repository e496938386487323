-- A number is retransmitted at most once in a round trip: by induction on the calls.
use Rattle.std.specs.Prelude.{if◌then◌else◌, not, is_some}
use Rattle.std.specs.List.{position, position_or_len}
use Rattle.std.proofs.Common.{◌≡◌, ◌≢◌, ◌∙◌, ◌⊎◌, inl, inr, ℕ, zero, suc, ◌+◌, ◌-◌, ◌*◌, ◌^◌, ◌≤◌, ◌<◌, ◌&&◌, min, max, Bool, true, false, cond, List, [], ◌∷◌, length, slice_index_or, slice_set, Option, Some, None, Err, refl, sym, ap, subst, arith, nat_eq, nat_lt, get_or-set_same, get_or-set_other}
use Rattle.std.proofs.lemmas.Bool.Decides.{nat_tests}
use Rattle.std.proofs.lemmas.List.{length-set}
use Rattle.codec_payload_bandwidth_pacer.specs.declared.resends.Held.{Held}
use Rattle.codec_payload_bandwidth_pacer.specs.declared.resends.ResendRefused.TheVariants.{TooSoon, Share}
use Rattle.codec_payload_bandwidth_pacer.specs.Resending.{Limit, answer_by, free_place, holds, is_free, is_held, new_limit, passed, until_of, with_held}
use Rattle.codec_payload_bandwidth_pacer.specs.ResendRuns.{AreApart, Call, IsApart, Resent, ResendsAreApart, after_calls, resend, resent_by, resent_of, sent, with_resent}
use Rattle.codec_payload_bandwidth_pacer.proofs.ShareLemmas.{passes}

abbrev pub empty : Held
empty = record { number = 0; until = 0 }

-- ---- positions

-- none passes before the first that does
skipped_by : (p : Held → Bool) (x : Held) (xs : List Held) (b : Bool) → p x ≡ b → ((k : ℕ) → k < position_or_len p xs → p (slice_index_or xs k empty) ≡ false)
    → (k : ℕ) → k < cond (not b) (1 + position_or_len p xs) 0 → p (slice_index_or (x ∷ xs) k empty) ≡ false
skipped_by p x xs true is rest k h = absurd (omega (arith, h))
skipped_by p x xs false is rest zero h = is
skipped_by p x xs false is rest (suc k) h = rest k (omega (arith, h))

skipped : (p : Held → Bool) (xs : List Held) (k : ℕ) → k < position_or_len p xs → p (slice_index_or xs k empty) ≡ false
skipped p [] k h = absurd (omega (arith, h))
skipped p (x ∷ xs) k h = skipped_by p x xs (p x) refl (skipped p xs) k h

-- the first that does
found_by : (p : Held → Bool) (x : Held) (xs : List Held) (b : Bool) → p x ≡ b → (position_or_len p xs < length xs → p (slice_index_or xs (position_or_len p xs) empty) ≡ true)
    → cond (not b) (1 + position_or_len p xs) 0 < length (x ∷ xs) → p (slice_index_or (x ∷ xs) (cond (not b) (1 + position_or_len p xs) 0) empty) ≡ true
found_by p x xs true is rest h = is
found_by p x xs false is rest h =
    let next : suc (position_or_len p xs) ≡ 1 + position_or_len p xs = omega arith in
    subst (λ (n : ℕ). p (slice_index_or (x ∷ xs) n empty) ≡ true) next (rest (omega (arith, h)))

found : (p : Held → Bool) (xs : List Held) → position_or_len p xs < length xs → p (slice_index_or xs (position_or_len p xs) empty) ≡ true
found p [] h = absurd (omega (arith, h))
found p (x ∷ xs) h = found_by p x xs (p x) refl (found p xs) h

pub none_passes : (p : Held → Bool) (xs : List Held) (k : ℕ) → is_some (position p xs) ≡ false → k < length xs → p (slice_index_or xs k empty) ≡ false
none_passes p xs k none within = skipped p xs k (omega (arith, within, beyond (nat_lt (position_or_len p xs) (length xs)) refl none))
  where
    beyond : (b : Bool) → nat_lt (position_or_len p xs) (length xs) ≡ b → is_some (cond b (Some (position_or_len p xs)) None) ≡ false → length xs ≤ position_or_len p xs
    beyond true is h = cc
    beyond false is h = grind (arith, nat_tests)

pub first_passes : (p : Held → Bool) (xs : List Held) (i : ℕ) → position p xs ≡ Some i → (i < length xs) × (p (slice_index_or xs i empty) ≡ true)
first_passes p xs i is = at (nat_lt (position_or_len p xs) (length xs)) refl is
  where
    at : (b : Bool) → nat_lt (position_or_len p xs) (length xs) ≡ b → cond b (Some (position_or_len p xs)) None ≡ Some i → (i < length xs) × (p (slice_index_or xs i empty) ≡ true)
    at true less h =
        let same : position_or_len p xs ≡ i = cc in
        let within : position_or_len p xs < length xs = grind (arith, nat_tests) in
        (omega (arith, same, within), subst (λ (n : ℕ). p (slice_index_or xs n empty) ≡ true) same (found p xs within))
    at false less h = cc

-- ---- what is held

abbrev pub held_of : Resent → Held
held_of r = record { number = r.number; until = r.until }

abbrev pub IsIn : Resent → List Held → Type 0
IsIn r held = (k : ℕ) × (k < length held) × (slice_index_or held k empty ≡ held_of r)

-- the round trip of each retransmission is over, or it is held
abbrev pub Kept : ℕ → List Held → List Resent → Type 0
Kept at held [] = Unit {0}
Kept at held (r ∷ rs) = ((r.until ≤ at) ⊎ IsIn r held) × Kept at held rs

later : (at at' : ℕ) (held : List Held) (rs : List Resent) → at ≤ at' → Kept at held rs → Kept at' held rs
later at at' held [] h kept = tt
later at at' held (r ∷ rs) h (inl over, kept) = (inl (omega (arith, over, h)), later at at' held rs h kept)
later at at' held (r ∷ rs) h (inr is, kept) = (inr is, later at at' held rs h kept)

-- a place is taken whose round trip is over
replaced : (at place : ℕ) (v : Held) (held : List Held) (rs : List Resent) → place < length held → (slice_index_or held place empty).until ≤ at
    → Kept at held rs → Kept at (slice_set held place v) rs
replaced at place v held [] within free kept = tt
replaced at place v held (r ∷ rs) within free (inl over, kept) = (inl over, replaced at place v held rs within free kept)
replaced at place v held (r ∷ rs) within free (inr (k, below, is), kept) = (by_place (nat_eq k place) refl, replaced at place v held rs within free kept)
  where
    by_place : (b : Bool) → nat_eq k place ≡ b → (r.until ≤ at) ⊎ IsIn r (slice_set held place v)
    by_place true e =
        let same : k ≡ place = grind (arith, nat_tests) in
        let until : (slice_index_or held place empty).until ≡ r.until = ap (λ (n : ℕ). (slice_index_or held n empty).until) (sym same) ∙ ap (λ (h : Held). h.until) is in
        inl (omega (arith, until, free))
    by_place false e =
        let other : k ≢ place = grind (arith, nat_tests) in
        inr (k, omega (arith, below, length-set held place v), get_or-set_other held place k v empty other ∙ is)

over_if : (at until : ℕ) (b c : Bool) → b ≡ true → nat_lt at until ≡ c → (b && c) ≡ false → until ≤ at
over_if at until true true is less none = cc
over_if at until true false is less none = grind (arith, nat_tests)
over_if at until false c is less none = cc

over_by : (at number : ℕ) (one : Held) → holds at number one ≡ false → one.number ≡ number → one.until ≤ at
over_by at number one none e =
    let same : nat_eq one.number number ≡ true = grind (arith, nat_tests) in
    over_if at one.until (nat_eq one.number number) (nat_lt at one.until) same refl none

-- a number that is not held is apart from all before
apart_from : (at : ℕ) (held : List Held) (r : Resent) (rs : List Resent) → r.at ≡ at → is_held at r.number held ≡ false → Kept at held rs → IsApart r rs
apart_from at held r [] same free kept = tt
apart_from at held r (before ∷ rs) same free (inl over, kept) = (λ _. omega (arith, over, same), apart_from at held r rs same free kept)
apart_from at held r (before ∷ rs) same free (inr (k, below, is), kept) =
    (λ e. omega (arith, same, over_by at r.number (held_of before) (ap (holds at r.number) (sym is) ∙ none_passes (holds at r.number) held k free below) e), apart_from at held r rs same free kept)

-- ---- the calls

free_one : (at : ℕ) (one : Held) → is_free at one ≡ true → one.until ≤ at
free_one at one is = grind (arith, nat_tests)

-- what a request leaves: what is held, and what is apart
abbrev pub Fine : Limit → List Resent → Type 0
Fine l rs = AreApart rs × Kept l.at l.held rs

resent_fine : (number size round_trip : ℕ) (place : Option ℕ) (l : Limit) (r : Resent) (rs : List Resent) (soon spent : Bool) → is_held l.at number l.held ≡ soon
    → free_place l.at l.held ≡ place → r.number ≡ number → r.at ≡ l.at → r.until ≡ until_of round_trip l → Fine l rs
    → Fine (if soon then l else (if spent then l else with_held number size round_trip place l))
    (with_resent (if soon then Err TooSoon else (if spent then Err Share else answer_by place)) r rs)
resent_fine number size round_trip place l r rs true spent held free is at until fine = fine
resent_fine number size round_trip place l r rs false true held free is at until fine = fine
resent_fine number size round_trip None l r rs false false held free is at until fine = fine
resent_fine number size round_trip (Some p) l r rs false false held free is at until (apart, kept) =
    let first = first_passes (is_free l.at) l.held p free in
    let v : Held = record { number = number; until = until_of round_trip l } in
    let v_is : v ≡ held_of r = λ i. record { number = sym is i; until = sym until i } in
    let new : IsIn r (slice_set l.held p v) =
    (p, omega (arith, first.0, length-set l.held p v), get_or-set_same l.held p v empty first.0 ∙ v_is) in (
      (apart_from l.at l.held r rs at (ap (λ (n : ℕ). is_held l.at n l.held) is ∙ held) kept, apart),
      (inr new, replaced l.at p v l.held rs first.0 (free_one l.at (slice_index_or l.held p empty) first.1) kept),
    )

fine : (calls : List Call) (l : Limit) → Fine (after_calls calls l) (resent_by calls l)
fine [] l = (tt, tt)
fine (sent now size ∷ before) l =
    let m : Limit = after_calls before l in
    let (apart, kept) = fine before l in (
      apart,
      subst (λ (held : List Held). Kept (passed now m).at held (resent_by before l)) (sym (passes now m).held)
          (later m.at (passed now m).at m.held (resent_by before l) (omega (arith, (passes now m).at)) kept),
    )
fine (resend now number size round_trip ∷ before) l =
    let start : Limit = after_calls before l in
    let m : Limit = passed now start in
    let at : m.at ≡ max start.at now = (passes now start).at in
    let (apart, kept) = fine before l in
    let still : Kept m.at m.held (resent_by before l) = subst (λ (held : List Held). Kept m.at held (resent_by before l)) (sym (passes now start).held)
    (later start.at m.at start.held (resent_by before l) (omega (arith, at)) kept) in
    resent_fine number size round_trip (free_place m.at m.held) m (resent_of (max start.at now) number size round_trip) (resent_by before l)
    (is_held m.at number m.held) (nat_lt m.credit (size * 1000)) refl refl refl (sym at)
    (ap (λ (n : ℕ). min (n + round_trip) (2 ^ 64 - 1)) (sym at)) (apart, still)

pub resends_are_apart : ResendsAreApart
resends_are_apart settings calls = (fine calls (new_limit settings)).0
