-- A stretch of pushes leaves what the set of pushed numbers says.
use Rattle.std.proofs.Common.{◌≡◌, ℕ, zero, suc, ◌<◌, ◌≤◌, ◌+◌, ◌-◌, [], ◌∷◌, List, length, map, take, refl, ap, sym}
use Rattle.std.proofs.Common.{◌∙◌, subst, arith, Bool, true, false, cond, Option, Some, eqb, ltb, not, ◌&&◌, ◌||◌, inl, inr, ◌⊎◌}
use Rattle.std.specs.Prelude.{filter}
use Rattle.std.proofs.lemmas.Bool.{cases_lt}
use Rattle.std.proofs.lemmas.Bool.Decides.{nat_tests}
use Rattle.std.proofs.lemmas.List.{take-map, drop-map, length-map}
use Rattle.codec_payload_buffer.specs.Held.{Held, number_of, has_number, Rises, AllAbove, placed}
use Rattle.codec_payload_buffer.specs.Steps.{State, IsSound, is_at_most}
use Rattle.codec_payload_buffer.proofs.Gathered.{gathered, last_number, is_some_left, with_kept}
use Rattle.codec_payload_buffer.specs.Stretches.{after_pushes, numbers_from, last_or, is_some_of, stretch_numbers, IsLeft, IsInRange, LeavesNumbers, HaveSameNumbers, OrderIsFree}
use Rattle.codec_payload_codec.proofs.CaseLemmas.{by_test}
use Rattle.codec_payload_buffer.proofs.PushLemmas.{with_one, with_one_rises, stretch_is}
use Rattle.codec_payload_buffer.proofs.MemberLemmas.{IsIn, KeysAbove, KeysRise, same_members}

pub has_placed : (n : ℕ) (p : Held) (hs : List Held) → has_number n (placed p hs) ≡ (eqb p.meta.seq_no.0 n || has_number n hs)
has_placed n p [] = refl
has_placed n p (q ∷ qs) =
    by_test (ltb q.meta.seq_no.0 p.meta.seq_no.0) (λ b. has_number n (cond b (q ∷ placed p qs) (p ∷ q ∷ qs)) ≡ (eqb p.meta.seq_no.0 n || has_number n (q ∷ qs)))
    (λ e. ap (λ b. eqb q.meta.seq_no.0 n || b) (has_placed n p qs) ∙ swapped (eqb q.meta.seq_no.0 n) (eqb p.meta.seq_no.0 n) (has_number n qs))
    (λ e. refl)
  where
    swapped : (a b c : Bool) → (a || (b || c)) ≡ (b || (a || c))
    swapped true true c = refl
    swapped true false c = refl
    swapped false b c = refl

-- one more: above the cutoff it is there
has_one : (c : Option ℕ) (hs : List Held) (p : Held) (n : ℕ) → has_number n (with_one c hs p) ≡ (has_number n hs || (not (is_at_most c n) && eqb p.meta.seq_no.0 n))
has_one c hs p n = by_test (eqb p.meta.seq_no.0 n) (λ b. has_number n (with_one c hs p) ≡ (has_number n hs || (not (is_at_most c n) && b)))
    (λ e. let same : p.meta.seq_no.0 ≡ n = grind (arith, nat_tests, e) in at n same)
    (λ e. by_test (is_at_most c p.meta.seq_no.0 || has_number p.meta.seq_no.0 hs) (λ b. has_number n (cond b hs (placed p hs)) ≡ (has_number n hs || (not (is_at_most c n) && false)))
    (λ t. none (has_number n hs) (is_at_most c n))
    (λ t. has_placed n p hs ∙ rw e (none (has_number n hs) (is_at_most c n))))
  where
    none : (a b : Bool) → a ≡ (a || (not b && false))
    none true b = refl
    none false true = refl
    none false false = refl

    kept_in : (a b : Bool) → (a || b) ≡ true → b ≡ (b || (not a && true))
    kept_in true true h = refl
    kept_in true false h = refl
    kept_in false true h = refl
    kept_in false false h = absurd (cc)

    put_in : (a b : Bool) → (a || b) ≡ false → true ≡ (b || (not a && true))
    put_in false false h = refl
    put_in true b h = absurd (cc)
    put_in false true h = absurd (cc)

    here : has_number p.meta.seq_no.0 (with_one c hs p) ≡ (has_number p.meta.seq_no.0 hs || (not (is_at_most c p.meta.seq_no.0) && true))
    here = by_test (is_at_most c p.meta.seq_no.0 || has_number p.meta.seq_no.0 hs) (λ b. (is_at_most c p.meta.seq_no.0 || has_number p.meta.seq_no.0 hs) ≡ b
        → has_number p.meta.seq_no.0 (cond b hs (placed p hs)) ≡ (has_number p.meta.seq_no.0 hs || (not (is_at_most c p.meta.seq_no.0) && true)))
        (λ t is. kept_in (is_at_most c p.meta.seq_no.0) (has_number p.meta.seq_no.0 hs) is)
        (λ t is. has_placed p.meta.seq_no.0 p hs ∙ grind (arith, nat_tests) ∙ put_in (is_at_most c p.meta.seq_no.0) (has_number p.meta.seq_no.0 hs) is) refl

    at : (n : ℕ) → p.meta.seq_no.0 ≡ n → has_number n (with_one c hs p) ≡ (has_number n hs || (not (is_at_most c n) && true))
    at n same = subst (λ n. has_number n (with_one c hs p) ≡ (has_number n hs || (not (is_at_most c n) && true))) same here

-- a number is there exactly if it was held, or was pushed and lies above the cutoff
pub gathered_has : (c : Option ℕ) (hs ps : List Held) (n : ℕ) → has_number n (gathered c hs ps) ≡ (has_number n hs || (not (is_at_most c n) && has_number n ps))
gathered_has c hs [] n = none (has_number n hs) (is_at_most c n)
  where
    none : (a b : Bool) → a ≡ (a || (not b && false))
    none true b = refl
    none false true = refl
    none false false = refl
gathered_has c hs (p ∷ ps) n = gathered_has c (with_one c hs p) ps n ∙ ap (λ b. b || (not (is_at_most c n) && has_number n ps)) (has_one c hs p n)
    ∙ joined (has_number n hs) (not (is_at_most c n)) (eqb p.meta.seq_no.0 n) (has_number n ps)
  where
    joined : (a b c d : Bool) → ((a || (b && c)) || (b && d)) ≡ (a || (b && (c || d)))
    joined true b c d = refl
    joined false true true d = refl
    joined false true false d = refl
    joined false false c d = refl

gathered_rises : (c : Option ℕ) (hs ps : List Held) → Rises hs → Rises (gathered c hs ps)
gathered_rises c hs [] r = r
gathered_rises c hs (p ∷ ps) r = gathered_rises c (with_one c hs p) ps (with_one_rises c hs p r)

-- Lists of numbers that rise
pub number_in : (n : ℕ) (hs : List Held) → has_number n hs ≡ true → IsIn n (map number_of hs)
number_in n [] h = absurd (cc)
number_in n (p ∷ ps) h = by_test (eqb p.meta.seq_no.0 n) (λ b. (b || has_number n ps) ≡ true → (n ≡ p.meta.seq_no.0) ⊎ IsIn n (map number_of ps))
    (λ e h. inl (grind (arith, nat_tests, e))) (λ e h. inr (number_in n ps h)) h

pub in_number : (n : ℕ) (hs : List Held) → IsIn n (map number_of hs) → has_number n hs ≡ true
in_number n [] h = absurd h
in_number n (p ∷ ps) (inl e) = grind (arith, nat_tests, e)
in_number n (p ∷ ps) (inr h) = grind (arith, nat_tests, in_number n ps h)

numbers_above : (n : ℕ) (hs : List Held) → AllAbove n hs → KeysAbove (λ (m : ℕ). m) n (map number_of hs)
numbers_above n [] a = tt
numbers_above n (p ∷ ps) a = (a.0, numbers_above n ps a.1)

numbers_rise : (hs : List Held) → Rises hs → KeysRise (λ (m : ℕ). m) (map number_of hs)
numbers_rise [] r = tt
numbers_rise (p ∷ ps) r = (numbers_above p.meta.seq_no.0 ps r.0, numbers_rise ps r.1)

-- a filter of the numbers of a range
range_above : (test : ℕ → Bool) (n low count : ℕ) → n < low → KeysAbove (λ (m : ℕ). m) n (filter test (numbers_from low count))
range_above test n low zero l = tt
range_above test n low (suc count) l = by_test (test low) (λ b. KeysAbove (λ (m : ℕ). m) n (cond b (low ∷ filter test (numbers_from (low + 1) count)) (filter test (numbers_from (low + 1) count))))
    (λ e. (l, range_above test n (low + 1) count (omega arith)))
    (λ e. range_above test n (low + 1) count (omega arith))

pub range_rises : (test : ℕ → Bool) (low count : ℕ) → KeysRise (λ (m : ℕ). m) (filter test (numbers_from low count))
range_rises test low zero = tt
range_rises test low (suc count) = by_test (test low) (λ b. KeysRise (λ (m : ℕ). m) (cond b (low ∷ filter test (numbers_from (low + 1) count)) (filter test (numbers_from (low + 1) count))))
    (λ e. (range_above test low (low + 1) count (omega arith), range_rises test (low + 1) count))
    (λ e. range_rises test (low + 1) count)

pub in_range : (test : ℕ → Bool) (n low count : ℕ) → IsIn n (filter test (numbers_from low count)) → test n ≡ true
in_range test n low zero h = absurd h
in_range test n low (suc count) h = by_test (test low) (λ b. test low ≡ b
    → IsIn n (cond b (low ∷ filter test (numbers_from (low + 1) count)) (filter test (numbers_from (low + 1) count))) → test n ≡ true)
    (λ e is h. elim h [ inl same ↦ ap test same ∙ is | inr k ↦ in_range test n (low + 1) count k ])
    (λ e is h. in_range test n (low + 1) count h) refl h

pub range_in : (test : ℕ → Bool) (n low count : ℕ) → low ≤ n → n < low + count → test n ≡ true → IsIn n (filter test (numbers_from low count))
range_in test n low zero le l t = absurd (omega arith)
range_in test n low (suc count) le l t = by_test (test low) (λ b. test low ≡ b → IsIn n (cond b (low ∷ filter test (numbers_from (low + 1) count)) (filter test (numbers_from (low + 1) count))))
    (λ e is. elim (cases_lt low n) [ inl over ↦ inr (range_in test n (low + 1) count (omega arith) (omega arith) t) | inr at ↦ inl (omega arith) ])
    (λ e is. elim (cases_lt low n) [
      | inl over ↦ range_in test n (low + 1) count (omega arith) (omega arith) t
      | inr at
          ↦ let same : low ≡ n = omega arith in absurd (clash (test n) t (ap test (sym same) ∙ is))
    ]) refl
  where
    clash : (b : Bool) → b ≡ true → b ≡ false → ⊥
    clash b t f = cc

-- the gathered packets, as a filter
pub gathered_is : (s : State) (ps : List Held) (low count : ℕ) → Rises s.held → IsInRange s ps low count → map number_of (gathered s.cutoff s.held ps) ≡ stretch_numbers s ps low count
gathered_is s ps low count r within =
    same_members (λ (m : ℕ). m) (map number_of (gathered s.cutoff s.held ps)) (stretch_numbers s ps low count)
    (numbers_rise (gathered s.cutoff s.held ps) (gathered_rises s.cutoff s.held ps r)) (range_rises test low count)
    (λ n h. let t : test n ≡ true = sym (gathered_has s.cutoff s.held ps n) ∙ in_number n (gathered s.cutoff s.held ps) h in range_in test n low count (within n t).0 (within n t).1 t)
    (λ n h. number_in n (gathered s.cutoff s.held ps) (gathered_has s.cutoff s.held ps n ∙ in_range test n low count h))
  where
    test : ℕ → Bool
    test n = has_number n s.held || (not (is_at_most s.cutoff n) && has_number n ps)

-- The numbers alone decide what is left
last_is : (hs : List Held) (c : Option ℕ) → last_number hs c ≡ last_or (map number_of hs) c
last_is [] c = refl
last_is (p ∷ ps) c = last_is ps (Some p.meta.seq_no.0)

some_is : (hs : List Held) → is_some_left hs ≡ is_some_of (map number_of hs)
some_is [] = refl
some_is (p ∷ ps) = refl

kept_left : (s : State) (all : List Held) → IsLeft s (map number_of all) (with_kept s all)
kept_left s all =
    let same : length (map number_of all) ≡ length all = length-map all number_of in
    record {
      held = rw same (sym (drop-map number_of (length all - s.limit) all));
      cutoff = rw same (last_is (take (length all - s.limit) all) s.cutoff ∙ ap (λ (ns : List ℕ). last_or ns s.cutoff) (sym (take-map number_of (length all - s.limit) all)));
      evicted = rw same (ap (λ b. b || s.evicted) (some_is (take (length all - s.limit) all) ∙ ap is_some_of (sym (take-map number_of (length all - s.limit) all))));
      contiguity = refl;
      depacketizer = refl;
      hold_back = refl;
      limit = refl;
    }

left_after : (s : State) (ps : List Held) → IsSound s → IsLeft s (map number_of (gathered s.cutoff s.held ps)) (after_pushes s ps)
left_after s ps ok = subst (IsLeft s (map number_of (gathered s.cutoff s.held ps))) (sym (stretch_is s ps ok.rises ok.above ok.few)) (kept_left s (gathered s.cutoff s.held ps))

pub leaves_numbers : LeavesNumbers
leaves_numbers s ps low count ok within = subst (λ (all : List ℕ). IsLeft s all (after_pushes s ps)) (gathered_is s ps low count ok.rises within) (left_after s ps ok)

-- the same numbers pushed, the same gathered
same_gathered : (s : State) (ps qs : List Held) → Rises s.held → ((n : ℕ) → has_number n ps ≡ has_number n qs)
    → map number_of (gathered s.cutoff s.held ps) ≡ map number_of (gathered s.cutoff s.held qs)
same_gathered s ps qs r same =
    same_members (λ (m : ℕ). m) (map number_of (gathered s.cutoff s.held ps)) (map number_of (gathered s.cutoff s.held qs))
    (numbers_rise (gathered s.cutoff s.held ps) (gathered_rises s.cutoff s.held ps r)) (numbers_rise (gathered s.cutoff s.held qs) (gathered_rises s.cutoff s.held qs r))
    (λ n h. number_in n (gathered s.cutoff s.held qs) (sym (both n) ∙ in_number n (gathered s.cutoff s.held ps) h))
    (λ n h. number_in n (gathered s.cutoff s.held ps) (both n ∙ in_number n (gathered s.cutoff s.held qs) h))
  where
    both : (n : ℕ) → has_number n (gathered s.cutoff s.held ps) ≡ has_number n (gathered s.cutoff s.held qs)
    both n = gathered_has s.cutoff s.held ps n ∙ ap (λ b. has_number n s.held || (not (is_at_most s.cutoff n) && b)) (same n) ∙ sym (gathered_has s.cutoff s.held qs n)

both_left : (s t u : State) (all : List ℕ) → IsLeft s all t → IsLeft s all u → HaveSameNumbers t u
both_left s t u all a b = record {
  held = a.held ∙ sym b.held;
  cutoff = a.cutoff ∙ sym b.cutoff;
  evicted = a.evicted ∙ sym b.evicted;
  contiguity = a.contiguity ∙ sym b.contiguity;
  depacketizer = a.depacketizer ∙ sym b.depacketizer;
  hold_back = a.hold_back ∙ sym b.hold_back;
  limit = a.limit ∙ sym b.limit;
}

pub order_is_free : OrderIsFree
order_is_free s ps qs ok same =
    both_left s (after_pushes s ps) (after_pushes s qs) (map number_of (gathered s.cutoff s.held qs))
    (subst (λ (all : List ℕ). IsLeft s all (after_pushes s ps)) (same_gathered s ps qs ok.rises same) (left_after s ps ok))
    (left_after s qs ok)
