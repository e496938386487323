-- What a call that notes a range of numbers says of each number.
use Rattle.std.proofs.Common.{◌≡◌, refl, ap, subst, ℕ, zero, suc, ◌+◌, ◌-◌, ◌<◌, ◌≤◌, ◌⊎◌, ◌++◌, min, max, List, [], ◌∷◌, Bool, true, false, cond, ltb, leb, eqb, arith, ◌||◌, Option, Some, None, inl, inr, length, drop}
use Rattle.std.specs.Prelude.{IfSome}
use Rattle.std.specs.List.{filter}
use Rattle.std.proofs.Math.Nat.{le-max_left}
use Rattle.std.proofs.lemmas.Bool.{cases_lt, eqb-true, leb-true}
use Rattle.std.proofs.lemmas.Bool.Decides.{nat_tests}
use Rattle.codec_payload_codec.proofs.CaseLemmas.{by_test}
use Rattle.codec_payload_buffer.specs.Held.{Held, has_number}
use Rattle.codec_payload_buffer.specs.Steps.{is_at_most}
use Rattle.codec_payload_jitter.specs.Missing.{numbers_between, numbers_from}
use Rattle.codec_payload_jitter.specs.NoMediaNumbers.{is_in}
use Rattle.codec_payload_jitter.specs.NotedRanges.{NotesIf, NotesRange, NotesUnless, above_cutoff, is_any_held, is_held_in, no_media_between, noted_between, numbers_below, numbers_from_on, start_of}
use Rattle.codec_payload_jitter.specs.Receiving.{Receiving}

or_parts : (a b : Bool) → a || b ≡ true → (a ≡ true) ⊎ (b ≡ true)
or_parts true b h = inl refl
or_parts false b h = inr h

or_left : (a b : Bool) → a ≡ true → a || b ≡ true
or_left true b h = refl
or_left false b h = absurd (cc)

or_right : (a b : Bool) → b ≡ true → a || b ≡ true
or_right true b h = refl
or_right false b h = h

or_none : (a b : Bool) → a || b ≡ false → (a ≡ false) × (b ≡ false)
or_none true b h = absurd (cc)
or_none false b h = (refl, h)

-- ---- in which part of a list a number is

in_either : (n : ℕ) (xs ys : List ℕ) → is_in n (xs ++ ys) ≡ true → (is_in n xs ≡ true) ⊎ (is_in n ys ≡ true)
in_either n [] ys is = inr is
in_either n (x ∷ xs) ys is = elim (or_parts (eqb x n) (is_in n (xs ++ ys)) is) [
  | inl here ↦ inl (or_left (eqb x n) (is_in n xs) here)
  | inr there ↦ elim (in_either n xs ys there) [ inl first ↦ inl (or_right (eqb x n) (is_in n xs) first) | inr second ↦ inr second ]
]

in_filter : (p : ℕ → Bool) (n : ℕ) (xs : List ℕ) → is_in n (filter p xs) ≡ true → is_in n xs ≡ true
in_filter p n [] is = is
in_filter p n (x ∷ xs) is = by_test (p x) (λ b. is_in n (cond b (x ∷ filter p xs) (filter p xs)) ≡ true → is_in n (x ∷ xs) ≡ true)
    (λ e h. elim (or_parts (eqb x n) (is_in n (filter p xs)) h) [ inl here ↦ or_left (eqb x n) (is_in n xs) here | inr there ↦ or_right (eqb x n) (is_in n xs) (in_filter p n xs there) ])
    (λ e h. or_right (eqb x n) (is_in n xs) (in_filter p n xs h))
    is

in_drop : (n k : ℕ) (xs : List ℕ) → is_in n (drop k xs) ≡ true → is_in n xs ≡ true
in_drop n zero xs is = is
in_drop n (suc k) [] is = is
in_drop n (suc k) (x ∷ xs) is = or_right (eqb x n) (is_in n xs) (in_drop n k xs is)

in_from : (n a count : ℕ) → is_in n (numbers_from a count) ≡ true → (a ≤ n) × (n < a + count)
in_from n a zero is = absurd (cc)
in_from n a (suc k) is = elim (or_parts (eqb a n) (is_in n (numbers_from (a + 1) k)) is) [
  | inl here ↦ let same : a ≡ n = eqb-true a n here in (omega (arith, same), omega (arith, same))
  | inr there ↦ let rest = in_from n (a + 1) k there in (omega (arith, rest.0), omega (arith, rest.1))
]

in_noted : (n first end : ℕ) (ns : List ℕ) → first ≤ end → is_in n (noted_between first end ns) ≡ true → (is_in n ns ≡ true) ⊎ ((first ≤ n) × (n < end))
in_noted n first end ns le is =
    let all = in_drop n (length (no_media_between first end ns) - 1024) (no_media_between first end ns) is in
    elim (in_either n (numbers_below first ns) (numbers_between first end ++ numbers_from_on end ns) all) [
      | inl low ↦ inl (in_filter (λ m. ltb m first) n ns low)
      | inr rest ↦ elim (in_either n (numbers_between first end) (numbers_from_on end ns) rest) [
        | inl mid ↦ let here = in_from n first (end - first) mid in inr (here.0, omega (arith, le, here.1))
        | inr high ↦ inl (in_filter (λ m. leb end m) n ns high)
      ]
    ]

none_held : (n a count : ℕ) (held : List Held) → is_held_in (numbers_from a count) held ≡ false → a ≤ n → n < a + count → has_number n held ≡ false
none_held n a zero held none above below = absurd (omega (arith, above, below))
none_held n a (suc k) held none above below =
    let parts = or_none (has_number a held) (is_held_in (numbers_from (a + 1) k) held) none in
    elim (cases_lt a n) [
      | inl less ↦ none_held n (a + 1) k held parts.1 (omega (arith, less)) (omega (arith, below))
      | inr over ↦ let same : a ≡ n = omega (arith, above, over) in subst (λ (m : ℕ). has_number m held ≡ false) same parts.0
    ]

-- ---- the first number of a range that is noted

start_above : (c : Option ℕ) (first end n : ℕ) → IfSome c (λ c. c + 1 < 18446744073709551616) → start_of c first end ≤ n → (first ≤ n) × (is_at_most c n ≡ false)
start_above None first end n next le = let most : first ≤ max first (end - 1024) = le-max_left first (end - 1024) in (omega (arith, most, le), refl)
start_above (Some c) first end n next le =
    let most : above_cutoff (Some c) first ≤ max (above_cutoff (Some c) first) (end - 1024) = le-max_left (above_cutoff (Some c) first) (end - 1024) in
    let above : above_cutoff (Some c) first ≤ n = omega (arith, most, le) in
    by_test (leb first c) (λ b. cond b (min (c + 1) 18446744073709551615) first ≤ n → (first ≤ n) × (leb n c ≡ false))
    (λ e h.
    let low : first ≤ c = leb-true first c e in
    let up : c + 1 ≤ n = omega (arith, next, h) in
    (omega (arith, low, up), grind (arith, nat_tests, up)))
    (λ e h. let low : c < first = grind (arith, nat_tests, e) in let up : c < n = omega (arith, low, h) in (h, grind (arith, nat_tests, up)))
    above

-- ---- the call

-- the number is of the range, no packet with it is held, and it is above the cutoff
pub record IsFresh (first end n : ℕ) (r : Receiving) : Type 0 where
  pub above : first ≤ n
  pub below : n < end
  pub unheld : has_number n r.buffer.held ≡ false
  pub unreleased : is_at_most r.buffer.cutoff n ≡ false

pub in_range : (n first end : ℕ) (r : Receiving) (noted : Option ℕ) (t : Receiving) → IfSome r.buffer.cutoff (λ c. c + 1 < 18446744073709551616)
    → NotesRange first end r noted t → is_in n t.no_media_numbers ≡ true → (is_in n r.no_media_numbers ≡ true) ⊎ IsFresh first end n r
in_range n first end r noted t next notes is =
    by_test (ltb start end) (λ b. NotesIf b start end r noted t → (is_in n r.no_media_numbers ≡ true) ⊎ IsFresh first end n r)
    (λ e some.
    by_test (is_any_held start end r.buffer.held) (λ b. NotesUnless b start end r noted t → (is_in n r.no_media_numbers ≡ true) ⊎ IsFresh first end n r)
    (λ held same. inl (subst (λ (x : Receiving). is_in n x.no_media_numbers ≡ true) same.1 is))
    (λ held notes. new e held (subst (λ (x : Receiving). is_in n x.no_media_numbers ≡ true) notes.1 is))
    some)
    (λ e same. inl (subst (λ (x : Receiving). is_in n x.no_media_numbers ≡ true) same.1 is))
    notes
  where
    start : ℕ
    start = start_of r.buffer.cutoff first end

    new : ltb start end ≡ true → is_any_held start end r.buffer.held ≡ false → is_in n (noted_between start end r.no_media_numbers) ≡ true → (is_in n r.no_media_numbers ≡ true) ⊎ IsFresh first end n r
    new e held is =
        let less : start < end = grind (arith, nat_tests, e) in
        let le : start ≤ end = omega (arith, less) in
        elim (in_noted n start end r.no_media_numbers le is) [
          | inl old ↦ inl old
          | inr here ↦
              let above = start_above r.buffer.cutoff first end n next here.0 in
              let unheld : has_number n r.buffer.held ≡ false = none_held n start (end - start) r.buffer.held held here.0 (omega (arith, le, here.1)) in
              inr (record { above = above.0; below = here.1; unheld = unheld; unreleased = above.1 })
        ]

pub range_buffer : (first end : ℕ) (r : Receiving) (noted : Option ℕ) (t : Receiving) → NotesRange first end r noted t → t.buffer ≡ r.buffer
range_buffer first end r noted t notes =
    by_test (ltb start end) (λ b. NotesIf b start end r noted t → t.buffer ≡ r.buffer)
    (λ e some.
    by_test (is_any_held start end r.buffer.held) (λ b. NotesUnless b start end r noted t → t.buffer ≡ r.buffer)
    (λ held same. ap (λ (x : Receiving). x.buffer) same.1)
    (λ held notes. ap (λ (x : Receiving). x.buffer) notes.1)
    some)
    (λ e same. ap (λ (x : Receiving). x.buffer) same.1)
    notes
  where
    start : ℕ
    start = start_of r.buffer.cutoff first end
