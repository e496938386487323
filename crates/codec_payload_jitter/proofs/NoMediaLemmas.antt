-- Numbers that carry no media, in rising order.
use Rattle.std.proofs.Common.{◌≡◌, ◌≢◌, ◌∙◌, refl, ap, sym, ℕ, ◌+◌, ◌<◌, ◌≤◌, List, [], ◌∷◌, Bool, true, false}
use Rattle.std.proofs.Common.{length, get_or, arith, cond, ltb, eqb, add-one, ◌&&◌, ◌||◌, not, Option, Some, None, inl, inr, zero, suc, drop}
use Rattle.std.specs.List.{insert}
use Rattle.std.proofs.lemmas.Bool.{eqb-true, cases_lt}
use Rattle.std.proofs.lemmas.Bool.Decides.{nat_tests}
use Rattle.codec_payload_buffer.specs.Blanks.{passed_number}
use Rattle.codec_payload_buffer.specs.Steps.{State}
use Rattle.codec_payload_buffer.specs.Blanks.{is_right_after}
use Rattle.codec_payload_buffer.specs.Held.{has_number}
use Rattle.codec_payload_jitter.specs.NoMediaNumbers.{below, no_media_in, is_done, kept_few, no_media_left, noted_no_media, passed_no_media, is_in, PassesNoMediaAlone, PassesInPlace, Rises, RisesAfter}

pub below_within : (n : ℕ) (xs : List ℕ) → below n xs ≤ length xs
below_within n [] = omega arith
below_within n (m ∷ ms) = grind (arith, nat_tests, below_within n ms)

pub in_already : (d n : ℕ) (xs : List ℕ) → below n xs < length xs → get_or xs (below n xs) d ≡ n → no_media_in n xs ≡ xs
in_already d n [] l is = absurd (omega arith)
in_already d n (m ∷ ms) l is = already (in_already d n ms) (ltb m n) refl l is
  where
    already : (below n ms < length ms → get_or ms (below n ms) d ≡ n → no_media_in n ms ≡ ms) → (b : Bool) → ltb m n ≡ b → cond b (below n ms + 1) 0 < length (m ∷ ms)
        → get_or (m ∷ ms) (cond b (below n ms + 1) 0) d ≡ n
        → cond b (m ∷ no_media_in n ms) (cond (eqb m n) (m ∷ ms) (n ∷ m ∷ ms)) ≡ m ∷ ms
    already rest true e l is = ap (λ (zs : List ℕ). m ∷ zs) (rest (omega arith) (rw add-one at is))
    already rest false e l is = let same : eqb m n ≡ true = grind (arith, nat_tests) in rw same refl

pub in_anew : (d n : ℕ) (xs : List ℕ) → (below n xs < length xs → get_or xs (below n xs) d ≢ n) → insert xs (below n xs) n ≡ no_media_in n xs
in_anew d n [] other = refl
in_anew d n (m ∷ ms) other = is_restarting (in_anew d n ms) (ltb m n) refl other
  where
    is_restarting : ((below n ms < length ms → get_or ms (below n ms) d ≢ n) → insert ms (below n ms) n ≡ no_media_in n ms) → (b : Bool) → ltb m n ≡ b
        → (cond b (below n ms + 1) 0 < length (m ∷ ms) → get_or (m ∷ ms) (cond b (below n ms + 1) 0) d ≢ n)
        → insert (m ∷ ms) (cond b (below n ms + 1) 0) n ≡ cond b (m ∷ no_media_in n ms) (cond (eqb m n) (m ∷ ms) (n ∷ m ∷ ms))
    is_restarting rest true e other = rw add-one (ap (λ (zs : List ℕ). m ∷ zs) (rest (λ l. rw add-one at (other (omega arith)))))
    is_restarting rest false e other = let differ : eqb m n ≡ false = let unlike : m ≢ n = other (omega arith) in grind (arith, nat_tests) in rw differ refl

is_next_to : (cutoff : Option ℕ) (c n : ℕ) → cutoff ≡ Some c → is_right_after cutoff n ≡ true → c + 1 ≡ n
is_next_to cutoff c n at next = let after : eqb (c + 1) n ≡ true = ap (λ (o : Option ℕ). is_right_after o n) (sym at) ∙ next in eqb-true (c + 1) n after

both_first : (a b : Bool) → a && b ≡ true → a ≡ true
both_first true b h = refl
both_first false b h = cc

both_second : (a b : Bool) → a && not b ≡ true → b ≡ false
both_second true true h = cc
both_second true false h = refl
both_second false b h = cc

in_later : (a b : Bool) → b ≡ true → a || b ≡ true
in_later true b h = refl
in_later false b h = h

pub passes_alone : PassesNoMediaAlone
passes_alone s [] c d n at to up down = let same : Some c ≡ Some d = sym at ∙ to in let is : c ≡ d = cc in absurd (omega (arith, is))
passes_alone s (m ∷ ms) c d n at to up down = by_tests (λ t k. passes_alone t ms k d n) (is_done s m) (is_right_after s.cutoff m && not (has_number m s.held)) refl to
  where
    by_tests : ((t : State) (k : ℕ) → t.cutoff ≡ Some k → (passed_no_media t ms).cutoff ≡ Some d → k < n → n ≤ d → (is_in n ms ≡ true) × (has_number n t.held ≡ false))
        → (b k : Bool) → is_right_after s.cutoff m && not (has_number m s.held) ≡ k → (cond b (passed_no_media (cond k (record s { cutoff = Some m }) s) ms) s).cutoff ≡ Some d
        → (is_in n (m ∷ ms) ≡ true) × (has_number n s.held ≡ false)
    by_tests later false k next to = let same : Some c ≡ Some d = sym at ∙ to in let is : c ≡ d = cc in absurd (omega (arith, is))
    by_tests later true false next to = let rest = later s c at to up down in (in_later (eqb m n) (is_in n ms) rest.0, rest.1)
    by_tests later true true next to =
        let after : c + 1 ≡ m = is_next_to s.cutoff c m at (both_first (is_right_after s.cutoff m) _ next) in
        let absent : has_number m s.held ≡ false = both_second (is_right_after s.cutoff m) (has_number m s.held) next in
        elim (cases_lt m n) [
          | inl beyond ↦ let rest = later (record s { cutoff = Some m }) m refl to beyond down in (in_later (eqb m n) (is_in n ms) rest.0, rest.1)
          | inr within ↦
              let is : m ≡ n = omega (arith, after, up, within) in
              let here : eqb m n ≡ true = grind (arith, nat_tests) in
              (rw here refl, ap (λ k. has_number k s.held) (sym is) ∙ absent)
        ]

pub passes_in_place : PassesInPlace
passes_in_place s [] = (refl, λ none. none)
passes_in_place s (m ∷ ms) = by_tests (λ t. passes_in_place t ms) (is_done s m) (is_right_after s.cutoff m && not (has_number m s.held)) refl
  where
    by_tests : ((t : State) → (passed_no_media t ms ≡ record t { cutoff = (passed_no_media t ms).cutoff }) × (t.cutoff ≡ None → (passed_no_media t ms).cutoff ≡ None))
        → (b k : Bool) → is_right_after s.cutoff m && not (has_number m s.held) ≡ k
        → (cond b (passed_no_media (cond k (record s { cutoff = Some m }) s) ms) s ≡ record s { cutoff = (cond b (passed_no_media (cond k (record s { cutoff = Some m }) s) ms) s).cutoff })
        × (s.cutoff ≡ None → (cond b (passed_no_media (cond k (record s { cutoff = Some m }) s) ms) s).cutoff ≡ None)
    by_tests later false k next = (refl, λ none. none)
    by_tests later true false next = later s
    by_tests later true true next = ((later (record s { cutoff = Some m })).0, λ none. let no_next = rw none at (both_first (is_right_after s.cutoff m) _ next) in cc)

-- ---- rising numbers

after_up : (m : ℕ) (ns : List ℕ) → RisesAfter m ns → (j : ℕ) → j < length ns → m < get_or ns j 0
after_up m [] rises j within = absurd (omega (arith, within))
after_up m (n ∷ ns) rises zero within = rises.0
after_up m (n ∷ ns) rises (suc j) within = omega (arith, rises.0, after_up n ns rises.1 j (omega (arith, within)))

after_rises : (m : ℕ) (ns : List ℕ) → RisesAfter m ns → Rises ns
after_rises m [] rises = tt
after_rises m (n ∷ ns) rises = rises.1

-- as a search wants it
pub up : (ns : List ℕ) → Rises ns → (i j : ℕ) → i ≤ j → j < length ns → get_or ns i 0 ≤ get_or ns j 0
up [] rises i j le within = absurd (omega (arith, within))
up (n ∷ ns) rises zero zero le within = omega arith
up (n ∷ ns) rises zero (suc j) le within = omega (arith, after_up n ns rises j (omega (arith, within)))
up (n ∷ ns) rises (suc i) zero le within = absurd (omega (arith, le))
up (n ∷ ns) rises (suc i) (suc j) le within = up ns (after_rises n ns rises) i j (omega (arith, le)) (omega (arith, within))

-- a number that was found
pub in_at : (n : ℕ) (xs : List ℕ) (i : ℕ) → i < length xs → get_or xs i 0 ≡ n → is_in n xs ≡ true
in_at n [] i within is = absurd (omega (arith, within))
in_at n (m ∷ ms) zero within is = let here : eqb m n ≡ true = grind (arith, nat_tests) in rw here refl
in_at n (m ∷ ms) (suc i) within is = in_later (eqb m n) (is_in n ms) (in_at n ms i (omega (arith, within)) is)

not_at : (n : ℕ) (xs : List ℕ) → ((k : ℕ) → k < length xs → get_or xs k 0 ≢ n) → is_in n xs ≡ false
not_at n [] other = refl
not_at n (m ∷ ms) other =
    let unlike : m ≢ n = other zero (omega arith) in
    let here : eqb m n ≡ false = grind (arith, nat_tests) in
    rw here (not_at n ms (λ k within. other (suc k) (omega (arith, within))))

-- a number between two neighbours
pub not_between : (n : ℕ) (xs : List ℕ) (i : ℕ) → ((k : ℕ) → k < i → get_or xs k 0 < n) → ((k : ℕ) → i ≤ k → k < length xs → n < get_or xs k 0) → is_in n xs ≡ false
not_between n xs i below above = not_at n xs (λ k within is. elim (cases_lt k i) [
  | inl before ↦ omega (arith, below k before, is)
  | inr behind ↦ omega (arith, above k behind within, is)
])

in_rises_after : (m n : ℕ) (ns : List ℕ) → m < n → RisesAfter m ns → RisesAfter m (no_media_in n ns)
in_rises_after m n [] less rises = (less, tt)
in_rises_after m n (k ∷ ks) less rises = by_tests (ltb k n) (eqb k n) refl refl (λ l. in_rises_after k n ks l rises.1)
  where
    by_tests : (a b : Bool) → ltb k n ≡ a → eqb k n ≡ b → (k < n → RisesAfter k (no_media_in n ks)) → RisesAfter m (cond a (k ∷ no_media_in n ks) (cond b (k ∷ ks) (n ∷ k ∷ ks)))
    by_tests true b is equal later = (rises.0, later (grind (arith, nat_tests)))
    by_tests false true is equal later = rises
    by_tests false false is equal later = let past : n < k = grind (arith, nat_tests) in (less, (past, rises.1))

in_rises : (n : ℕ) (ns : List ℕ) → Rises ns → Rises (no_media_in n ns)
in_rises n [] rises = tt
in_rises n (m ∷ ms) rises = by_tests (ltb m n) (eqb m n) refl refl (λ l. in_rises_after m n ms l rises)
  where
    by_tests : (a b : Bool) → ltb m n ≡ a → eqb m n ≡ b → (m < n → RisesAfter m (no_media_in n ms)) → Rises (cond a (m ∷ no_media_in n ms) (cond b (m ∷ ms) (n ∷ m ∷ ms)))
    by_tests true b is equal later = later (grind (arith, nat_tests))
    by_tests false true is equal later = rises
    by_tests false false is equal later = let past : n < m = grind (arith, nat_tests) in (past, rises)

few_rises : (ns : List ℕ) → Rises ns → Rises (kept_few ns)
few_rises [] rises = tt
few_rises (n ∷ ns) rises = by_test (ltb 1024 (length (n ∷ ns)))
  where
    by_test : (b : Bool) → Rises (cond b (drop 1 (n ∷ ns)) (n ∷ ns))
    by_test true = after_rises n ns rises
    by_test false = rises

pub noted_rises : (n : ℕ) (ns : List ℕ) → Rises ns → Rises (noted_no_media n ns)
noted_rises n ns rises = few_rises (no_media_in n ns) (in_rises n ns rises)

pub left_rises : (s : State) (ns : List ℕ) → Rises ns → Rises (no_media_left s ns)
left_rises s [] rises = tt
left_rises s (n ∷ ns) rises = by_test (left_rises (passed_number s n) ns (after_rises n ns rises)) (is_done s n)
  where
    by_test : Rises (no_media_left (passed_number s n) ns) → (b : Bool) → Rises (cond b (no_media_left (passed_number s n) ns) (n ∷ ns))
    by_test later true = later
    by_test later false = rises
