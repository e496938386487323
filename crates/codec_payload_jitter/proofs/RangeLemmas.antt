-- Ranges of numbers without media: which numbers are noted after one, and that the list goes on to rise.
use Rattle.std.proofs.Common.{◌≡◌, ◌≢◌, ◌∙◌, refl, ap, sym, subst, ℕ, zero, suc, ◌+◌, ◌-◌, ◌<◌, ◌≤◌, ◌⊎◌, ◌++◌, min, max, List, [], ◌∷◌, Bool, true, false, cond, ltb, leb, eqb, arith, ◌&&◌, ◌||◌, not, Option, Some, None, inl, inr, length, drop}
use Rattle.std.specs.List.{filter}
use Rattle.std.proofs.lemmas.Bool.Decides.{nat_tests}
use Rattle.codec_payload_codec.proofs.CaseLemmas.{by_test}
use Rattle.codec_payload_buffer.specs.Held.{Held, has_number}
use Rattle.codec_payload_jitter.specs.Missing.{numbers_between, numbers_from}
use Rattle.codec_payload_jitter.specs.NoMediaNumbers.{Rises, RisesAfter, is_in}
use Rattle.codec_payload_jitter.specs.NotedRanges.{NotesNoOther, is_any_held, is_held_in, latest_few, lowest_if_crowded, no_media_between, noted_between, numbers_below, numbers_from_on}
use Rattle.codec_payload_jitter.specs.Staying.{first_number}

-- ---- the numbers of a range

pub between_next : (a b : ℕ) → a < b → numbers_between a b ≡ a ∷ numbers_between (a + 1) b
between_next a b l =
    let all : b - a ≡ suc (b - (a + 1)) = omega (arith, l) in
    ap (numbers_from a) all

pub between_none : (a b : ℕ) → b ≤ a → numbers_between a b ≡ []
between_none a b le = let none : b - a ≡ 0 = omega (arith, le) in ap (numbers_from a) none

pub from_length : (a count : ℕ) → length (numbers_from a count) ≡ count
from_length a zero = refl
from_length a (suc k) = ap suc (from_length (a + 1) k)

pub held_next : (n end : ℕ) (held : List Held) → n < end → is_any_held n end held ≡ has_number n held || is_any_held (n + 1) end held
held_next n end held l = ap (λ ns. is_held_in ns held) (between_next n end l)

pub held_none : (n end : ℕ) (held : List Held) → end ≤ n → is_any_held n end held ≡ false
held_none n end held le = ap (λ ns. is_held_in ns held) (between_none n end le)

-- ---- is_in

or_false : (b : Bool) → b || false ≡ b
or_false true = refl
or_false false = refl

differ : (x m : ℕ) → x ≢ m → eqb x m ≡ false
differ x m unlike = grind (arith, nat_tests)

in_append : (m : ℕ) (xs ys : List ℕ) → is_in m (xs ++ ys) ≡ is_in m xs || is_in m ys
in_append m [] ys = refl
in_append m (x ∷ xs) ys = by_test (eqb x m) (λ b. b || is_in m (xs ++ ys) ≡ (b || is_in m xs) || is_in m ys) (λ e. refl) (λ e. in_append m xs ys)

in_kept : (p : ℕ → Bool) (m : ℕ) (ns : List ℕ) → p m ≡ true → is_in m (filter p ns) ≡ is_in m ns
in_kept p m [] is = refl
in_kept p m (x ∷ xs) is = by_test (p x) (λ b. is_in m (cond b (x ∷ filter p xs) (filter p xs)) ≡ eqb x m || is_in m xs)
    (λ e. ap (λ b. eqb x m || b) (in_kept p m xs is))
    (λ e.
    let other : eqb x m ≡ false = differ x m (λ same. let there : p x ≡ true = ap p same ∙ is in absurd (cc)) in
    in_kept p m xs is ∙ ap (λ b. b || is_in m xs) (sym other))

in_dropped : (p : ℕ → Bool) (m : ℕ) (ns : List ℕ) → p m ≡ false → is_in m (filter p ns) ≡ false
in_dropped p m [] is = refl
in_dropped p m (x ∷ xs) is = by_test (p x) (λ b. is_in m (cond b (x ∷ filter p xs) (filter p xs)) ≡ false)
    (λ e.
    let other : eqb x m ≡ false = differ x m (λ same. let there : p x ≡ false = ap p same ∙ is in absurd (cc)) in
    ap (λ b. b || is_in m (filter p xs)) other ∙ in_dropped p m xs is)
    (λ e. in_dropped p m xs is)

not_from : (m a count : ℕ) → (m < a) ⊎ (a + count ≤ m) → is_in m (numbers_from a count) ≡ false
not_from m a zero out = refl
not_from m a (suc k) out =
    let other : eqb a m ≡ false = differ a m (λ same. elim out [ inl under ↦ absurd (omega (arith, under, same)) | inr over ↦ absurd (omega (arith, over, same)) ]) in
    let further : (m < a + 1) ⊎ (a + 1 + k ≤ m) = elim out [ inl under ↦ inl (omega (arith, under)) | inr over ↦ inr (omega (arith, over)) ] in
    ap (λ b. b || is_in m (numbers_from (a + 1) k)) other ∙ not_from m (a + 1) k further

not_between : (m first end : ℕ) → first ≤ end → (m < first) ⊎ (end ≤ m) → is_in m (numbers_between first end) ≡ false
not_between m first end le out = not_from m first (end - first) (elim out [ inl under ↦ inl under | inr over ↦ inr (omega (arith, le, over)) ])

not_behind : (m k : ℕ) (ns : List ℕ) → is_in m ns ≡ false → is_in m (drop k ns) ≡ false
not_behind m zero ns is = is
not_behind m (suc k) [] is = refl
not_behind m (suc k) (x ∷ xs) is = not_behind m k xs (later (eqb x m) (is_in m xs) is)
  where
    later : (a b : Bool) → a || b ≡ false → b ≡ false
    later true b h = cc
    later false b h = h

-- a number beside the range
pub beside_same : (m first end : ℕ) (ns : List ℕ) → first ≤ end → (m < first) ⊎ (end ≤ m) → is_in m (no_media_between first end ns) ≡ is_in m ns
beside_same m first end ns le out =
    let low : Bool = is_in m (numbers_below first ns) in
    let high : Bool = is_in m (numbers_from_on end ns) in
    let parts : is_in m (no_media_between first end ns) ≡ low || (is_in m (numbers_between first end) || high) =
    in_append m (numbers_below first ns) (numbers_between first end ++ numbers_from_on end ns) ∙ ap (λ b. low || b) (in_append m (numbers_between first end) (numbers_from_on end ns)) in
    let rest : low || (is_in m (numbers_between first end) || high) ≡ low || high = ap (λ b. low || (b || high)) (not_between m first end le out) in
    parts ∙ rest ∙ elim out [
      | inl under ↦
          let here : ltb m first ≡ true = grind (arith, nat_tests) in
          let over : leb end m ≡ false = let l : m < end = omega (arith, under, le) in grind (arith, nat_tests) in
          ap (λ b. low || b) (in_dropped (λ n. leb end n) m ns over) ∙ or_false low ∙ in_kept (λ n. ltb n first) m ns here
      | inr over ↦
          let past : ltb m first ≡ false = let l : first ≤ m = omega (arith, over, le) in grind (arith, nat_tests) in
          let here : leb end m ≡ true = grind (arith, nat_tests) in
          ap (λ b. b || high) (in_dropped (λ n. ltb n first) m ns past) ∙ in_kept (λ n. leb end n) m ns here
    ]

-- ---- how many there are

parts_fit : (first end : ℕ) (ns : List ℕ) → first ≤ end → length (numbers_below first ns) + length (numbers_from_on end ns) ≤ length ns
parts_fit first end [] le = omega arith
parts_fit first end (x ∷ xs) le =
    let rest = parts_fit first end xs le in
    by_test (ltb x first) (λ b. length (cond b (x ∷ numbers_below first xs) (numbers_below first xs)) + length (cond (leb end x) (x ∷ numbers_from_on end xs) (numbers_from_on end xs)) ≤ suc (length xs))
    (λ e. by_test (leb end x) (λ c. suc (length (numbers_below first xs)) + length (cond c (x ∷ numbers_from_on end xs) (numbers_from_on end xs)) ≤ suc (length xs))
    (λ f. let under : x < first = grind (arith, nat_tests, e) in let over : end ≤ x = grind (arith, nat_tests, f) in absurd (omega (arith, under, over, le)))
    (λ f. omega (arith, rest)))
    (λ e. by_test (leb end x) (λ c. length (numbers_below first xs) + length (cond c (x ∷ numbers_from_on end xs) (numbers_from_on end xs)) ≤ suc (length xs))
    (λ f. omega (arith, rest))
    (λ f. omega (arith, rest)))

append_length : (xs ys : List ℕ) → length (xs ++ ys) ≡ length xs + length ys
append_length [] ys = omega arith
append_length (x ∷ xs) ys = let rest = append_length xs ys in omega (arith, rest)

all_fit : (first end : ℕ) (ns : List ℕ) → first ≤ end → length (no_media_between first end ns) ≤ (end - first) + length ns
all_fit first end ns le =
    let outer = append_length (numbers_below first ns) (numbers_between first end ++ numbers_from_on end ns) in
    let inner = append_length (numbers_between first end) (numbers_from_on end ns) in
    let range = from_length first (end - first) in
    let parts = parts_fit first end ns le in
    omega (arith, outer, inner, range, parts)

-- ---- rising

after_rises : (m : ℕ) (ns : List ℕ) → RisesAfter m ns → Rises ns
after_rises m [] rises = tt
after_rises m (n ∷ ns) rises = rises.1

weaken : (k m : ℕ) (ns : List ℕ) → k ≤ m → RisesAfter m ns → RisesAfter k ns
weaken k m [] le rises = tt
weaken k m (n ∷ ns) le rises = (omega (arith, le, rises.0), rises.1)

filter_after : (p : ℕ → Bool) (m : ℕ) (ns : List ℕ) → RisesAfter m ns → RisesAfter m (filter p ns)
filter_after p m [] rises = tt
filter_after p m (n ∷ ns) rises = by_test (p n) (λ b. RisesAfter m (cond b (n ∷ filter p ns) (filter p ns)))
    (λ e. (rises.0, filter_after p n ns rises.1))
    (λ e. filter_after p m ns (weaken m n ns (omega (arith, rises.0)) rises.1))

filter_rises : (p : ℕ → Bool) (ns : List ℕ) → Rises ns → Rises (filter p ns)
filter_rises p [] rises = tt
filter_rises p (n ∷ ns) rises = by_test (p n) (λ b. Rises (cond b (n ∷ filter p ns) (filter p ns)))
    (λ e. filter_after p n ns rises)
    (λ e. filter_rises p ns (after_rises n ns rises))

on_after : (k end : ℕ) (ns : List ℕ) → Rises ns → k < end → RisesAfter k (numbers_from_on end ns)
on_after k end [] rises l = tt
on_after k end (n ∷ ns) rises l = by_test (leb end n) (λ b. RisesAfter k (cond b (n ∷ numbers_from_on end ns) (numbers_from_on end ns)))
    (λ e. let over : end ≤ n = grind (arith, nat_tests, e) in (omega (arith, l, over), filter_after (λ x. leb end x) n ns rises))
    (λ e. on_after k end ns (after_rises n ns rises) l)

range_after : (k a count : ℕ) (ys : List ℕ) → k < a → ((j : ℕ) → j < a + count → RisesAfter j ys) → RisesAfter k (numbers_from a count ++ ys)
range_after k a zero ys l above = above k (omega (arith, l))
range_after k a (suc c) ys l above = (l, range_after a (a + 1) c ys (omega arith) (λ j less. above j (omega (arith, less))))

range_rises : (a count : ℕ) (ys : List ℕ) → Rises ys → ((j : ℕ) → j < a + count → RisesAfter j ys) → Rises (numbers_from a count ++ ys)
range_rises a zero ys rises above = rises
range_rises a (suc c) ys rises above = range_after a (a + 1) c ys (omega arith) (λ j less. above j (omega (arith, less)))

below_after : (m first : ℕ) (ns ys : List ℕ) → RisesAfter m ns → m < first → ((k : ℕ) → k < first → RisesAfter k ys) → RisesAfter m (numbers_below first ns ++ ys)
below_after m first [] ys rises l above = above m l
below_after m first (n ∷ ns) ys rises l above = by_test (ltb n first) (λ b. RisesAfter m (cond b (n ∷ numbers_below first ns) (numbers_below first ns) ++ ys))
    (λ e. let under : n < first = grind (arith, nat_tests, e) in (rises.0, below_after n first ns ys rises.1 under above))
    (λ e. below_after m first ns ys (weaken m n ns (omega (arith, rises.0)) rises.1) l above)

below_rises : (first : ℕ) (ns ys : List ℕ) → Rises ns → Rises ys → ((k : ℕ) → k < first → RisesAfter k ys) → Rises (numbers_below first ns ++ ys)
below_rises first [] ys rises others above = others
below_rises first (n ∷ ns) ys rises others above = by_test (ltb n first) (λ b. Rises (cond b (n ∷ numbers_below first ns) (numbers_below first ns) ++ ys))
    (λ e. let under : n < first = grind (arith, nat_tests, e) in below_after n first ns ys rises under above)
    (λ e. below_rises first ns ys (after_rises n ns rises) others above)

drop_rises : (k : ℕ) (ns : List ℕ) → Rises ns → Rises (drop k ns)
drop_rises zero ns rises = rises
drop_rises (suc k) [] rises = tt
drop_rises (suc k) (n ∷ ns) rises = drop_rises k ns (after_rises n ns rises)

pub noted_between_rises : (first end : ℕ) (ns : List ℕ) → first ≤ end → Rises ns → Rises (noted_between first end ns)
noted_between_rises first end ns le rises =
    let above : (j : ℕ) → j < first + (end - first) → RisesAfter j (numbers_from_on end ns) = λ j less. on_after j end ns rises (omega (arith, less, le)) in
    let range : Rises (numbers_between first end ++ numbers_from_on end ns) = range_rises first (end - first) (numbers_from_on end ns) (filter_rises (λ n. leb end n) ns rises) above in
    drop_rises (length (no_media_between first end ns) - 1024) (no_media_between first end ns)
    (below_rises first ns (numbers_between first end ++ numbers_from_on end ns) rises range
    (λ k less. range_after k first (end - first) (numbers_from_on end ns) less above))

-- ---- the numbers that are noted

below_first : (m l : ℕ) (ns : List ℕ) → Rises ns → first_number ns ≡ Some l → m < l → is_in m ns ≡ false
below_first m l [] rises is less = refl
below_first m l (n ∷ ns) rises is less =
    let at : n ≡ l = cc in
    ap (λ b. b || is_in m ns) (differ n m (λ same. absurd (omega (arith, at, same, less)))) ∙ below_after_first m n ns rises (omega (arith, at, less))
  where
    below_after_first : (m n : ℕ) (ns : List ℕ) → RisesAfter n ns → m < n → is_in m ns ≡ false
    below_after_first m n [] rises less = refl
    below_after_first m n (k ∷ ks) rises less =
        ap (λ b. b || is_in m ks) (differ k m (λ same. absurd (omega (arith, same, less, rises.0)))) ∙ below_after_first m k ks rises.1 (omega (arith, less, rises.0))

-- a number beside the range stays as it was, unless it may be forgotten
pub noted_same : (m first end : ℕ) (ns : List ℕ) → Rises ns → first ≤ end → (m < first) ⊎ (end ≤ m) → ((l : ℕ) → lowest_if_crowded (end - first) ns ≡ Some l → m < l)
    → is_in m (noted_between first end ns) ≡ is_in m ns
noted_same m first end ns rises le out below = by_test (ltb 1024 (min ((end - first) + length ns) 18446744073709551615))
    (λ b. ((l : ℕ) → cond b (first_number ns) None ≡ Some l → m < l) → is_in m (noted_between first end ns) ≡ is_in m ns)
    (λ e known.
    let absent : is_in m ns ≡ false = none_in m ns rises known in
    not_behind m (length (no_media_between first end ns) - 1024) (no_media_between first end ns) (beside_same m first end ns le out ∙ absent) ∙ sym absent)
    (λ e known.
    let few : (end - first) + length ns ≤ 1024 = grind (arith, nat_tests, e) in
    let fits = all_fit first end ns le in
    let none : length (no_media_between first end ns) - 1024 ≡ 0 = omega (arith, few, fits) in
    ap (λ k. is_in m (drop k (no_media_between first end ns))) none ∙ beside_same m first end ns le out)
    below
  where
    none_in : (m : ℕ) (ns : List ℕ) → Rises ns → ((l : ℕ) → first_number ns ≡ Some l → m < l) → is_in m ns ≡ false
    none_in m [] rises known = refl
    none_in m (n ∷ ns) rises known = below_first m n (n ∷ ns) rises refl (known n refl)
