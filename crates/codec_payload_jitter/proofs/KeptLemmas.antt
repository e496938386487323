-- A kept list of missing numbers stays right.
use Rattle.std.proofs.Common.{◌≡◌, ◌∙◌, refl, ap, sym, subst, ℕ, zero, suc, ◌+◌, ◌-◌, ◌<◌, ◌≤◌, ◌⊎◌, min, max, List, [], ◌∷◌, ◌++◌, Bool, true, false, cond, ltb, leb, arith, Option, Some, None, inl, inr, length, take}
use Rattle.std.proofs.lemmas.Bool.Decides.{nat_tests}
use Rattle.std.proofs.lemmas.List.{append-nil, append_cancel_right, take-append-le}
use Rattle.std.proofs.lemmas.List.Elements.{filter-append}
use Rattle.std.specs.List.{filter}
use Rattle.codec_payload_codec.proofs.CaseLemmas.{by_test}
use Rattle.codec_payload_buffer.specs.Held.{Held}
use Rattle.codec_payload_buffer.specs.Steps.{State, is_at_most}
use Rattle.codec_payload_jitter.specs.KeptMissing.{IsKnown, Keeps, Kept, free_between, is_between, is_free, nothing_kept, within}
use Rattle.codec_payload_jitter.specs.KeptRenewing.{changed_from, is_none, raised}
use Rattle.codec_payload_jitter.specs.Missing.{numbers_between, numbers_from}

-- ---- numbers in parts

from_parts : (a k m : ℕ) → numbers_from a (k + m) ≡ numbers_from a k ++ numbers_from (a + k) m
from_parts a zero m =
    let none : 0 + m ≡ m = omega arith in
    let same : a ≡ a + 0 = omega arith in
    ap (numbers_from a) none ∙ ap (λ n. numbers_from n m) same
from_parts a (suc k) m =
    let one : suc k + m ≡ suc (k + m) = omega arith in
    let next : a + 1 + k ≡ a + suc k = omega arith in
    ap (numbers_from a) one ∙ ap (λ ns. a ∷ ns) (from_parts (a + 1) k m ∙ ap (λ n. numbers_from (a + 1) k ++ numbers_from n m) next)

pub between_parts : (a b c : ℕ) → a ≤ b → b ≤ c → numbers_between a c ≡ numbers_between a b ++ numbers_between b c
between_parts a b c le below =
    let all : c - a ≡ (b - a) + (c - b) = omega (arith, le, below) in
    let start : a + (b - a) ≡ b = omega (arith, le) in
    ap (numbers_from a) all ∙ (from_parts a (b - a) (c - b) ∙ ap (λ n. numbers_between a b ++ numbers_from n (c - b)) start)

pub free_parts : (held : List Held) (noted : List ℕ) (a b c : ℕ) → a ≤ b → b ≤ c → free_between held noted a c ≡ free_between held noted a b ++ free_between held noted b c
free_parts held noted a b c le below =
    ap (filter (is_free held noted)) (between_parts a b c le below) ∙ filter-append (is_free held noted) (numbers_between a b) (numbers_between b c)

pub free_none : (held : List Held) (noted : List ℕ) (a b : ℕ) → b ≤ a → free_between held noted a b ≡ []
free_none held noted a b le = let none : b - a ≡ 0 = omega (arith, le) in rw none refl

-- ---- numbers that did not change

same_from : (held held' : List Held) (noted noted' : List ℕ) (a count : ℕ) → ((m : ℕ) → a ≤ m → m < a + count → is_free held' noted' m ≡ is_free held noted m)
    → filter (is_free held' noted') (numbers_from a count) ≡ filter (is_free held noted) (numbers_from a count)
same_from held held' noted noted' a zero same = refl
same_from held held' noted noted' a (suc k) same =
    let first : is_free held' noted' a ≡ is_free held noted a = same a (omega arith) (omega arith) in
    let others = same_from held held' noted noted' (a + 1) k (λ m le l. same m (omega (arith, le)) (omega (arith, l))) in
    ap (λ (b : Bool). cond b (a ∷ filter (is_free held' noted') (numbers_from (a + 1) k)) (filter (is_free held' noted') (numbers_from (a + 1) k))) first
    ∙ ap (λ (ns : List ℕ). cond (is_free held noted a) (a ∷ ns) ns) others

pub same_free : (held held' : List Held) (noted noted' : List ℕ) (a b : ℕ) → ((m : ℕ) → a ≤ m → m < b → is_free held' noted' m ≡ is_free held noted m)
    → free_between held' noted' a b ≡ free_between held noted a b
same_free held held' noted noted' a b same = same_from held held' noted noted' a (b - a) (λ m le l. same m le (omega (arith, le, l)))

-- ---- a part of an exact list

within_none : (p : ℕ → Bool) (low high a count : ℕ) → ((m : ℕ) → a ≤ m → m < a + count → is_between low high m ≡ false) → within low high (filter p (numbers_from a count)) ≡ []
within_none p low high a zero out = refl
within_none p low high a (suc k) out =
    let others = within_none p low high (a + 1) k (λ m le l. out m (omega (arith, le)) (omega (arith, l))) in
    let first : is_between low high a ≡ false = out a (omega arith) (omega arith) in
    by_test (p a) (λ b. within low high (cond b (a ∷ filter p (numbers_from (a + 1) k)) (filter p (numbers_from (a + 1) k))) ≡ [])
    (λ e. ap (λ (b : Bool). cond b (a ∷ within low high (filter p (numbers_from (a + 1) k))) (within low high (filter p (numbers_from (a + 1) k)))) first ∙ others)
    (λ e. others)

within_all : (p : ℕ → Bool) (low high a count : ℕ) → ((m : ℕ) → a ≤ m → m < a + count → is_between low high m ≡ true)
    → within low high (filter p (numbers_from a count)) ≡ filter p (numbers_from a count)
within_all p low high a zero inside = refl
within_all p low high a (suc k) inside =
    let others = within_all p low high (a + 1) k (λ m le l. inside m (omega (arith, le)) (omega (arith, l))) in
    let first : is_between low high a ≡ true = inside a (omega arith) (omega arith) in
    by_test (p a) (λ b. within low high (cond b (a ∷ filter p (numbers_from (a + 1) k)) (filter p (numbers_from (a + 1) k))) ≡ cond b (a ∷ filter p (numbers_from (a + 1) k)) (filter p (numbers_from (a + 1) k)))
    (λ e. ap (λ (b : Bool). cond b (a ∷ within low high (filter p (numbers_from (a + 1) k))) (within low high (filter p (numbers_from (a + 1) k)))) first ∙ ap (λ ns. a ∷ ns) others)
    (λ e. others)

-- the part of an exact list is exact
pub within_free : (held : List Held) (noted : List ℕ) (low high a b : ℕ) → low ≤ a → b ≤ high → within a b (free_between held noted low high) ≡ free_between held noted a b
within_free held noted low high a b le below = by_test (leb b a)
    (λ _. within a b (free_between held noted low high) ≡ free_between held noted a b)
    (λ e.
    let none : b ≤ a = grind (arith, nat_tests, e) in
    within_none (is_free held noted) a b low (high - low) (λ m _ _. grind (arith, nat_tests, none)) ∙ sym (free_none held noted a b none))
    (λ e.
    let some : a < b = grind (arith, nat_tests, e) in
    let parts : free_between held noted low high ≡ free_between held noted low a ++ (free_between held noted a b ++ free_between held noted b high) =
    free_parts held noted low a high le (omega (arith, some, below)) ∙ ap (λ ns. free_between held noted low a ++ ns) (free_parts held noted a b high (omega (arith, some)) below) in
    let before : within a b (free_between held noted low a) ≡ [] = within_none (is_free held noted) a b low (a - low) (λ m _ l. grind (arith, nat_tests, l, le)) in
    let inside : within a b (free_between held noted a b) ≡ free_between held noted a b = within_all (is_free held noted) a b a (b - a) (λ m ge l. grind (arith, nat_tests, ge, l, some)) in
    let behind : within a b (free_between held noted b high) ≡ [] = within_none (is_free held noted) a b b (high - b) (λ m ge _. grind (arith, nat_tests, ge)) in
    ap (within a b) parts ∙ (filter-append (is_between a b) (free_between held noted low a) (free_between held noted a b ++ free_between held noted b high)
    ∙ (ap (λ ns. ns ++ within a b (free_between held noted a b ++ free_between held noted b high)) before
    ∙ (filter-append (is_between a b) (free_between held noted a b) (free_between held noted b high)
    ∙ (ap (λ ns. ns ++ within a b (free_between held noted b high)) inside ∙ (ap (λ ns. free_between held noted a b ++ ns) behind ∙ append-nil (free_between held noted a b)))))))

-- ---- a search

head_above : (p : ℕ → Bool) (a count n : ℕ) (ns : List ℕ) → filter p (numbers_from a count) ≡ n ∷ ns → a ≤ n
head_above p a zero n ns is = cc
head_above p a (suc k) n ns is = by_test (p a) (λ b. cond b (a ∷ filter p (numbers_from (a + 1) k)) (filter p (numbers_from (a + 1) k)) ≡ n ∷ ns → a ≤ n)
    (λ e same. let first : a ≡ n = cc in omega (arith, first))
    (λ e same. let le = head_above p (a + 1) k n ns same in omega (arith, le)) is

-- the first missing number is not below the start
pub first_above : (held : List Held) (noted : List ℕ) (a b n : ℕ) (ns : List ℕ) → free_between held noted a b ≡ n ∷ ns → a ≤ n
first_above held noted a b n ns is = head_above (is_free held noted) a (b - a) n ns is

-- up to behind the first missing number there is only this one
pub first_alone : (held : List Held) (noted : List ℕ) (a b n : ℕ) → free_between held noted a b ≡ n ∷ free_between held noted (n + 1) b → n < b → free_between held noted a (n + 1) ≡ n ∷ []
first_alone held noted a b n is l =
    let le = first_above held noted a b n (free_between held noted (n + 1) b) is in
    append_cancel_right (free_between held noted a (n + 1)) (n ∷ []) (free_between held noted (n + 1) b) (sym (free_parts held noted a (n + 1) b (omega (arith, le)) (omega (arith, l))) ∙ is)

-- a search that goes on behind a missing number
pub first_appended : (held : List Held) (noted : List ℕ) (from a b n : ℕ) → from ≤ a → free_between held noted a b ≡ n ∷ free_between held noted (n + 1) b → n < b
    → free_between held noted from (n + 1) ≡ free_between held noted from a ++ n ∷ []
first_appended held noted from a b n le is l =
    let above = first_above held noted a b n (free_between held noted (n + 1) b) is in
    free_parts held noted from a (n + 1) le (omega (arith, above)) ∙ ap (λ ns. free_between held noted from a ++ ns) (first_alone held noted a b n is l)

-- ---- what keeps the list right

-- the numbers that are known after a change did not change
pub keeps_by : (k k' : Kept) (s t : State) (noted noted' : List ℕ) → Keeps k s noted → k'.numbers ≡ k.numbers → k'.low ≡ k.low → k'.high ≡ k.high
    → ((a b : ℕ) → IsKnown k' t.cutoff a b → IsKnown k s.cutoff a b)
    → ((a b m : ℕ) → IsKnown k' t.cutoff a b → a ≤ m → m < b → is_free t.held noted' m ≡ is_free s.held noted m)
    → Keeps k' t noted'
keeps_by k k' s t noted noted' keeps numbers low high known same = record {
  known = λ a b is. ap (within a b) numbers ∙ (keeps.known a b (known a b is) ∙ sym (same_free s.held t.held noted noted' a b (λ m le l. same a b m is le l)));
  all = ap (λ ns. within k'.low k'.high ns) numbers ∙ (ap (λ n. within n k'.high k.numbers) low ∙ (ap (λ n. within k.low n k.numbers) high ∙ (keeps.all ∙ sym numbers)));
}

-- an exact list is right
pub exact_keeps : (k : Kept) (s : State) (noted : List ℕ) → k.numbers ≡ free_between s.held noted k.low k.high → Keeps k s noted
exact_keeps k s noted exact = record {
  known = λ a b is. ap (within a b) exact ∙ within_free s.held noted k.low k.high a b is.above is.below;
  all = ap (within k.low k.high) exact ∙ (within_free s.held noted k.low k.high k.low k.high (omega arith) (omega arith) ∙ sym exact);
}

pub nothing_keeps : (s : State) (noted : List ℕ) → Keeps nothing_kept s noted
nothing_keeps s noted = exact_keeps nothing_kept s noted refl

-- ---- how the list becomes exact again

within_past : (a b : ℕ) (ns : List ℕ) → b ≤ a → within a b ns ≡ []
within_past a b [] le = refl
within_past a b (n ∷ ns) le =
    let out : is_between a b n ≡ false = grind (arith, nat_tests, le) in
    ap (λ (x : Bool). cond x (n ∷ within a b ns) (within a b ns)) out ∙ within_past a b ns le

pub over_above : (c : Option ℕ) (a b : ℕ) → is_at_most c a ≡ false → a ≤ b → is_at_most c b ≡ false
over_above None a b over le = refl
over_above (Some c) a b over le = grind (arith, nat_tests, over, le)

-- a part that is empty, or known
part_kept : (k : Kept) (s : State) (noted : List ℕ) (a b : ℕ) → Keeps k s noted → (a < b → IsKnown k s.cutoff a b) → within a b k.numbers ≡ free_between s.held noted a b
part_kept k s noted a b keeps known = by_test (ltb a b) (λ _. within a b k.numbers ≡ free_between s.held noted a b)
    (λ e. keeps.known a b (known (grind (arith, nat_tests, e))))
    (λ e. let past : b ≤ a = grind (arith, nat_tests, e) in within_past a b k.numbers past ∙ sym (free_none s.held noted a b past))

-- what is kept in front, what is searched, and what is kept behind
pub renewed : (k : Kept) (s : State) (noted : List ℕ) (next end high from to : ℕ) → Keeps k s noted → next ≤ end → is_at_most s.cutoff next ≡ false
    → high ≡ min (max k.high next) end → from ≡ changed_from next high k → to ≡ min (max (max k.to k.low) from) high
    → within next from k.numbers ++ (free_between s.held noted from to ++ within to high k.numbers) ≡ free_between s.held noted next high
renewed k s noted next end high from to keeps order over is_high is_from is_to =
    let reaches : next ≤ high = omega (arith, is_high, order) in
    let start : (next ≤ from) × (from ≤ high) = from_within (ltb next k.low) is_from in
    let goes : (from ≤ to) × (to ≤ high) = (omega (arith, is_to, start.1), omega (arith, is_to)) in
    let front : within next from k.numbers ≡ free_between s.held noted next from = part_kept k s noted next from keeps (λ some. front_known some (ltb next k.low) refl is_from) in
    let back : within to high k.numbers ≡ free_between s.held noted to high = part_kept k s noted to high keeps (λ some. record {
      above = omega (arith, is_to, some);
      below = omega (arith, is_high, start.0, goes.0, some);
      apart = inr (omega (arith, is_to, some));
      over = over_above s.cutoff next to over (omega (arith, start.0, goes.0));
    }) in
    ap (λ ns. ns ++ (free_between s.held noted from to ++ within to high k.numbers)) front
    ∙ (ap (λ ns. free_between s.held noted next from ++ (free_between s.held noted from to ++ ns)) back
    ∙ sym (free_parts s.held noted next from high start.0 start.1 ∙ ap (λ ns. free_between s.held noted next from ++ ns) (free_parts s.held noted from to high goes.0 goes.1)))
  where
    from_within : (b : Bool) → from ≡ cond b next (min (max k.from next) high) → (next ≤ from) × (from ≤ high)
    from_within true is = (omega (arith, is), omega (arith, is, is_high, order))
    from_within false is = (omega (arith, is, is_high, order), omega (arith, is))

    front_known : next < from → (b : Bool) → ltb next k.low ≡ b → from ≡ cond b next (min (max k.from next) high) → IsKnown k s.cutoff next from
    front_known some true e is = absurd (omega (arith, is, some))
    front_known some false e is = record {
      above = grind (arith, nat_tests, e);
      below = omega (arith, is, some, is_high);
      apart = inl (omega (arith, is, some));
      over = over;
    }

-- an exact list that goes on
pub exact_extended : (held : List Held) (noted ns ms : List ℕ) (next a b : ℕ) → ns ≡ free_between held noted next a → ms ≡ ns ++ free_between held noted (max a next) b → max a next ≤ b
    → ms ≡ free_between held noted next b
exact_extended held noted ns ms next a b exact more le = by_test (leb next a) (λ _. ms ≡ free_between held noted next b)
    (λ e.
    let first : next ≤ a = grind (arith, nat_tests, e) in
    let at : max a next ≡ a = omega (arith, first) in
    more ∙ (ap (λ xs. xs ++ free_between held noted (max a next) b) exact ∙ (ap (λ n. free_between held noted next a ++ free_between held noted n b) at ∙ sym (free_parts held noted next a b first (omega (arith, at, le))))))
    (λ e.
    let past : a ≤ next = grind (arith, nat_tests, e) in
    let at : max a next ≡ next = omega (arith, past) in
    more ∙ (ap (λ xs. xs ++ free_between held noted (max a next) b) (exact ∙ free_none held noted next a past) ∙ ap (λ n. free_between held noted n b) at))

-- the first `most` numbers do not depend on those behind them
pub first_most : (held : List Held) (noted ns : List ℕ) (next high end most : ℕ) → ns ≡ free_between held noted next high → next ≤ high → high ≤ end → (most ≤ length ns) ⊎ (high ≡ end)
    → take most ns ≡ take most (free_between held noted next end)
first_most held noted ns next high end most exact le below (inl enough) =
    sym (ap (take most) (free_parts held noted next high end le below ∙ ap (λ xs. xs ++ free_between held noted high end) (sym exact)) ∙ take-append-le most ns (free_between held noted high end) enough)
first_most held noted ns next high end most exact le below (inr all) = ap (take most) (exact ∙ ap (λ n. free_between held noted next n) all)

-- a list of no numbers begins later
pub raised_keeps : (next : ℕ) (k : Kept) (s : State) (noted : List ℕ) → Keeps k s noted → Keeps (raised next k) s noted
raised_keeps next k s noted keeps = by_numbers k.numbers refl
  where
    by_numbers : (ns : List ℕ) → ns ≡ k.numbers → Keeps (cond (is_none ns) (record k { low = max k.low next }) k) s noted
    by_numbers [] same = record {
      known = λ a b is. keeps.known a b (record { above = omega (arith, is.above); below = is.below; apart = is.apart; over = is.over });
      all = subst (λ xs. within (max k.low next) k.high xs ≡ xs) same refl;
    }
    by_numbers (n ∷ ns) same = keeps

-- a list of which nothing may have changed is exact
pub known_exact : (k : Kept) (s : State) (noted : List ℕ) → Keeps k s noted → k.high ≤ k.from → is_at_most s.cutoff k.low ≡ false → k.numbers ≡ free_between s.held noted k.low k.high
known_exact k s noted keeps unchanged over = sym keeps.all ∙ keeps.known k.low k.high (record { above = omega arith; below = omega arith; apart = inl unchanged; over = over })
