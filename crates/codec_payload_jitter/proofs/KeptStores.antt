-- A kept list of missing numbers stays right if packets are stored, numbers are noted, and units are popped.
use Rattle.std.proofs.Common.{◌≡◌, ◌≢◌, ◌∙◌, refl, ap, sym, subst, ℕ, ◌+◌, ◌<◌, ◌≤◌, List, [], ◌∷◌, Bool, true, cond, ltb, leb, eqb, arith, ◌&&◌, not, Option, Some, None, Result, inl, inr, length, min, max}
use Rattle.std.proofs.lemmas.Bool.Decides.{nat_tests}
use Rattle.codec_payload_codec.proofs.CaseLemmas.{by_test}
use Rattle.codec_payload_base.specs.declared.error.PacketError.{PacketError}
use Rattle.codec_payload_buffer.specs.Held.{Held, has_number}
use Rattle.codec_payload_metadata.specs.Release.{Release}
use Rattle.codec_payload_buffer.specs.Steps.{IsSound, Pops, State, is_at_most}
use Rattle.codec_payload_buffer.proofs.PairLemmas.{pushed_sound}
use Rattle.codec_payload_jitter.specs.KeptMissing.{IsKnown, Keeps, Kept, is_free, touched, touched_if}
use Rattle.codec_payload_jitter.specs.NoMediaNumbers.{is_in, no_media_in, no_media_left, noted_no_media, passed_no_media}
use Rattle.codec_payload_jitter.specs.Receiving.{Arrival, TakesIn, TakesInBoth}
use Rattle.codec_payload_jitter.specs.Staying.{first_number, forgotten, lowest_if_full}
use Rattle.codec_payload_jitter.specs.declared.outcome.Outcome.{Outcome}
use Rattle.codec_payload_jitter.proofs.KeptLemmas.{keeps_by, over_above}
use Rattle.codec_payload_jitter.proofs.ReceivingLemmas.{same_held}
use Rattle.codec_payload_jitter.proofs.StayingLemmas.{above_passed, note_changes_two, pass_changes_none, pop_changes_none, pop_over, push_over, store_changes_one}

-- ---- a number that may have changed

-- what is known beside it was known before, and does not have it
touched_known : (n : ℕ) (k : Kept) (c : Option ℕ) (a b : ℕ) → IsKnown (touched n k) c a b → IsKnown k c a b × ((m : ℕ) → a ≤ m → m < b → m ≢ n)
touched_known n k c a b = by_test (ltb n k.high)
    (λ x. IsKnown (cond x (record k { from = min k.from n; to = max k.to (n + 1) }) k) c a b → IsKnown k c a b × ((m : ℕ) → a ≤ m → m < b → m ≢ n))
    (λ e is. (
      record { above = is.above; below = is.below; apart = elim is.apart [ inl under ↦ inl (omega (arith, under)) | inr over ↦ inr (omega (arith, over)) ]; over = is.over },
      λ m le l same. elim is.apart [ inl under ↦ absurd (omega (arith, under, l, same)) | inr over ↦ absurd (omega (arith, over, le, same)) ],
    ))
    (λ e is. (is, λ m le l same. let past : k.high ≤ n = grind (arith, nat_tests, e) in absurd (omega (arith, is.below, l, same, past))))

touched_same : (n : ℕ) (k : Kept) → ((touched n k).numbers ≡ k.numbers) × ((touched n k).low ≡ k.low) × ((touched n k).high ≡ k.high)
touched_same n k = by_test (ltb n k.high)
    (λ x. ((cond x (record k { from = min k.from n; to = max k.to (n + 1) }) k).numbers ≡ k.numbers) × ((cond x (record k { from = min k.from n; to = max k.to (n + 1) }) k).low ≡ k.low)
    × ((cond x (record k { from = min k.from n; to = max k.to (n + 1) }) k).high ≡ k.high))
    (λ e. (refl, refl, refl)) (λ e. (refl, refl, refl))

touched_if_known : (o : Option ℕ) (k : Kept) (c : Option ℕ) (a b : ℕ) → IsKnown (touched_if o k) c a b → IsKnown k c a b × ((m : ℕ) → a ≤ m → m < b → o ≢ Some m)
touched_if_known None k c a b is = (is, λ m le l same. absurd (cc))
touched_if_known (Some n) k c a b is =
    let known = touched_known n k c a b is in
    (known.0, λ m le l same. let at : m ≡ n = cc in known.1 m le l at)

touched_if_same : (o : Option ℕ) (k : Kept) → ((touched_if o k).numbers ≡ k.numbers) × ((touched_if o k).low ≡ k.low) × ((touched_if o k).high ≡ k.high)
touched_if_same None k = (refl, refl, refl)
touched_if_same (Some n) k = touched_same n k

-- ---- stores

free_by : (h h' : List Held) (ns ns' : List ℕ) (m : ℕ) → has_number m h' ≡ has_number m h → is_in m ns' ≡ is_in m ns → is_free h' ns' m ≡ is_free h ns m
free_by h h' ns ns' m held noted = ap (λ (b : Bool). not b && not (is_in m ns')) held ∙ ap (λ (b : Bool). not (has_number m h) && not b) noted

pub stored_keeps : (rate n : ℕ) (a : Arrival) (k : Kept) (s t : State) (noted : List ℕ) → IsSound s → TakesIn rate a n s t → Keeps k s noted → Keeps (touched n k) t noted
stored_keeps rate n arrival k s t noted sound stored keeps =
    let same = touched_same n k in
    keeps_by k (touched n k) s t noted noted keeps same.0 same.1 same.2
    (λ a b is.
    let known = (touched_known n k t.cutoff a b is).0 in
    record {
      above = known.above;
      below = known.below;
      apart = known.apart;
      over = push_over a s stored.0 sound (ap (λ (x : State). is_at_most x.cutoff a) (sym stored.2) ∙ known.over);
    })
    (λ a b m is le l.
    let known = touched_known n k t.cutoff a b is in
    free_by s.held t.held noted noted m (store_changes_one rate n m arrival s t stored (known.1 m le l) (over_above t.cutoff a m known.0.over le)) refl)

taken_sound : (rate n : ℕ) (a : Arrival) (s t : State) → IsSound s → TakesIn rate a n s t → IsSound t
taken_sound rate n a s t sound stored = subst IsSound (sym stored.2) (pushed_sound s stored.0 sound)

pub stored_both_keeps : (rate n m : ℕ) (a b : Arrival) (k : Kept) (s t : State) (noted : List ℕ) (outcomes : Outcome × Outcome) → IsSound s → TakesInBoth rate a n b m s outcomes t → Keeps k s noted
    → Keeps (touched m (touched n k)) t noted
stored_both_keeps rate n m a b k s t noted outcomes sound (mid, first, second, one, two) keeps =
    stored_keeps rate m b (touched n k) mid t noted (taken_sound rate n a s mid sound first) second (stored_keeps rate n a k s mid noted sound first keeps)

-- ---- notes

few_more : (n : ℕ) (ns : List ℕ) → length (no_media_in n ns) ≤ length ns + 1
few_more n [] = omega arith
few_more n (m ∷ ms) = by_test (ltb m n) (λ b. length (cond b (m ∷ no_media_in n ms) (cond (eqb m n) (m ∷ ms) (n ∷ m ∷ ms))) ≤ length (m ∷ ms) + 1)
    (λ e. let rest = few_more n ms in omega (arith, rest))
    (λ e. by_test (eqb m n) (λ b. length (cond b (m ∷ ms) (n ∷ m ∷ ms)) ≤ length (m ∷ ms) + 1) (λ same. omega arith) (λ other. omega arith))

-- the first number is the noted one, or was the first
first_in : (n m : ℕ) (ns : List ℕ) → first_number (no_media_in n ns) ≡ Some m → m ≢ n → first_number ns ≡ Some m
first_in n m [] is other = let at : n ≡ m = cc in absurd (other (sym at))
first_in n m (x ∷ xs) is other = by_test (ltb x n) (λ b. first_number (cond b (x ∷ no_media_in n xs) (cond (eqb x n) (x ∷ xs) (n ∷ x ∷ xs))) ≡ Some m → Some x ≡ Some m)
    (λ e at. at)
    (λ e. by_test (eqb x n) (λ b. first_number (cond b (x ∷ xs) (n ∷ x ∷ xs)) ≡ Some m → Some x ≡ Some m) (λ same at. at) (λ unlike at. let here : n ≡ m = cc in absurd (other (sym here))))
    is

not_forgotten : (n m : ℕ) (ns : List ℕ) → m ≢ n → lowest_if_full ns ≢ Some m → forgotten n ns ≢ Some m
not_forgotten n m ns other kept = by_test (ltb 1024 (length (no_media_in n ns))) (λ b. cond b (first_number (no_media_in n ns)) None ≡ Some m → ⊥)
    (λ e is.
    let many : 1024 < length (no_media_in n ns) = grind (arith, nat_tests, e) in
    let more = few_more n ns in
    let full : leb 1024 (length ns) ≡ true = let le : 1024 ≤ length ns = omega (arith, many, more) in grind (arith, nat_tests, le) in
    kept (ap (λ (b : Bool). cond b (first_number ns) None) full ∙ first_in n m ns is other))
    (λ e is. absurd (cc))

pub noted_keeps : (n : ℕ) (k : Kept) (s : State) (ns : List ℕ) → Keeps k s ns → Keeps (touched_if (lowest_if_full ns) (touched n k)) s (noted_no_media n ns)
noted_keeps n k s ns keeps =
    let one = touched_same n k in
    let two = touched_if_same (lowest_if_full ns) (touched n k) in
    keeps_by k (touched_if (lowest_if_full ns) (touched n k)) s s ns (noted_no_media n ns) keeps (two.0 ∙ one.0) (two.1 ∙ one.1) (two.2 ∙ one.2)
    (λ a b is. (touched_known n k s.cutoff a b (touched_if_known (lowest_if_full ns) (touched n k) s.cutoff a b is).0).0)
    (λ a b m is le l.
    let kept = touched_if_known (lowest_if_full ns) (touched n k) s.cutoff a b is in
    let known = touched_known n k s.cutoff a b kept.0 in
    free_by s.held s.held ns (noted_no_media n ns) m refl (note_changes_two n m ns (known.1 m le l) (not_forgotten n m ns (known.1 m le l) (kept.1 m le l))))

-- ---- numbers that are passed, and pops

pub settled_keeps : (k : Kept) (s : State) (ns : List ℕ) → Keeps k s ns → Keeps k (passed_no_media s ns) (no_media_left s ns)
settled_keeps k s ns keeps = keeps_by k k s (passed_no_media s ns) ns (no_media_left s ns) keeps refl refl refl
    (λ a b is. record { above = is.above; below = is.below; apart = is.apart; over = above_passed a s ns is.over })
    (λ a b m is le l. free_by s.held (passed_no_media s ns).held ns (no_media_left s ns) m (ap (has_number m) (same_held s ns))
    (pass_changes_none m s ns (over_above (passed_no_media s ns).cutoff a m is.over le)))

pub popped_keeps : (h : ℕ) (k : Kept) (b s t : State) (ns : List ℕ) (answer : Option (Result Release PacketError)) → s ≡ record b { hold_back = h } → IsSound s → Pops s answer t → Keeps k b ns → Keeps k t ns
popped_keeps h k before s t ns answer set sound pops keeps = keeps_by k k before t ns ns keeps refl refl refl
    (λ a b is. record {
      above = is.above;
      below = is.below;
      apart = is.apart;
      over = ap (λ (x : State). is_at_most x.cutoff a) (sym set) ∙ pop_over a s t answer sound pops is.over;
    })
    (λ a b m is le l. free_by before.held t.held ns ns m (pop_changes_none m s t answer sound pops (over_above t.cutoff a m is.over le) ∙ ap (λ (x : State). has_number m x.held) set) refl)
