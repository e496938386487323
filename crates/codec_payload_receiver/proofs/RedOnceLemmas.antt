-- A time keeps its place until 64 others were noted, so that a repeat of it is found.
use Rattle.std.proofs.Common.{◌≡◌, ◌∙◌, refl, sym, ap, subst, cond, ℕ, zero, suc, ◌+◌, ◌%◌, ◌<◌, ◌≤◌, ◌==◌, ◌&&◌, ◌||◌, Bool, true, false, List, [], ◌∷◌, length, Option, Some, None, arith, slice_get, slice_set}
use Rattle.std.proofs.lemmas.Bool.{eq-eqb}
use Rattle.codec_payload_receiver.specs.RedOnce.{Received, AreStoredByRule, StoresEachTimeOnce, repeats}
use Rattle.codec_payload_numbers.specs.SeenTimes.{Seen, has_block, is_seen, none_seen, seen_with}
use Rattle.codec_payload_numbers.specs.declared.seen_times.SeenTime.{SeenTime}

-- Lists in which one place is set

set_other : {X : Type 0} (ys : List X) (i k : ℕ) (x : X) → (i ≡ k → ⊥) → slice_get (slice_set ys i x) k ≡ slice_get ys k
set_other [] i k x differ = refl
set_other (y ∷ ys) zero zero x differ = absurd (differ refl)
set_other (y ∷ ys) zero (suc k) x differ = refl
set_other (y ∷ ys) (suc i) zero x differ = refl
set_other (y ∷ ys) (suc i) (suc k) x differ = set_other ys i k x (λ same. differ (ap suc same))

set_there : {X : Type 0} (ys : List X) (i : ℕ) (x : X) → i < length ys → slice_get (slice_set ys i x) i ≡ Some x
set_there [] i x within = absurd (omega (arith, within))
set_there (y ∷ ys) zero x within = refl
set_there (y ∷ ys) (suc i) x within = set_there ys i x (omega (arith, within))

set_length : {X : Type 0} (ys : List X) (i : ℕ) (x : X) → length (slice_set ys i x) ≡ length ys
set_length [] i x = refl
set_length (y ∷ ys) zero x = refl
set_length (y ∷ ys) (suc i) x = ap suc (set_length ys i x)

same_at : {X : Type 0} (x y : X) → Some (Some x) ≡ Some (Some y) → x ≡ y
same_at x y same = cc

same_Some : {X : Type 0} (x y : X) → Some x ≡ Some y → x ≡ y
same_Some x y same = cc

or_true : (b : Bool) → (b || true) ≡ true
or_true true = refl
or_true false = refl

true_is_not_false : true ≡ false → ⊥
true_is_not_false same = cc

-- A time at a place is found

seen_there : (places : List (Option SeenTime)) (k : ℕ) (x : SeenTime) → slice_get places k ≡ Some (Some x) → is_seen x.time places ≡ true
seen_there [] k x there = absurd (cc)
seen_there (None ∷ ps) zero x there = absurd (cc)
seen_there (None ∷ ps) (suc k) x there = seen_there ps k x there
seen_there (Some z ∷ ps) zero x there =
    ap (λ (b : Bool). b || is_seen x.time ps) (eq-eqb z.time x.time (ap (λ (s : SeenTime). s.time) (same_at z x there)))
seen_there (Some z ∷ ps) (suc k) x there = ap (λ (b : Bool). (z.time == x.time) || b) (seen_there ps k x there) ∙ or_true (z.time == x.time)

block_there : (places : List (Option SeenTime)) (k : ℕ) (x : SeenTime) → slice_get places k ≡ Some (Some x) → x.is_block ≡ true → has_block x.time places ≡ true
block_there [] k x there block = absurd (cc)
block_there (None ∷ ps) zero x there block = absurd (cc)
block_there (None ∷ ps) (suc k) x there block = block_there ps k x there block
block_there (Some z ∷ ps) zero x there block =
    let same : z ≡ x = same_at z x there in
    ap (λ (b : Bool). (b && (z.time == x.time)) || has_block x.time ps) (ap (λ (s : SeenTime). s.is_block) same ∙ block)
    ∙ ap (λ (b : Bool). b || has_block x.time ps) (eq-eqb z.time x.time (ap (λ (s : SeenTime). s.time) same))
block_there (Some z ∷ ps) (suc k) x there block =
    ap (λ (b : Bool). (z.is_block && (z.time == x.time)) || b) (block_there ps k x there block) ∙ or_true (z.is_block && (z.time == x.time))

-- y repeats nothing, and x, which has the same time, was noted: so both are packets
both_packets : (s : Seen) (k : ℕ) (x y : SeenTime) → slice_get s.places k ≡ Some (Some x) → x.time ≡ y.time → repeats s y ≡ false
    → (x.is_block ≡ false) × (y.is_block ≡ false)
both_packets s k x y there same free = by_block x.is_block y.is_block refl refl
  where
    by_block : (first second : Bool) → x.is_block ≡ first → y.is_block ≡ second → (x.is_block ≡ false) × (y.is_block ≡ false)
    by_block first true is_first is_second =
        let unseen : is_seen y.time s.places ≡ false = sym (ap (λ (b : Bool). cond b (is_seen y.time s.places) (has_block y.time s.places)) is_second) ∙ free in
        let seen : is_seen y.time s.places ≡ true = subst (λ (t : ℕ). is_seen t s.places ≡ true) same (seen_there s.places k x there) in
        absurd (true_is_not_false (sym seen ∙ unseen))
    by_block true false is_first is_second =
        let unseen : has_block y.time s.places ≡ false = sym (ap (λ (b : Bool). cond b (is_seen y.time s.places) (has_block y.time s.places)) is_second) ∙ free in
        let seen : has_block y.time s.places ≡ true = subst (λ (t : ℕ). has_block t s.places ≡ true) same (block_there s.places k x there is_first) in
        absurd (true_is_not_false (sym seen ∙ unseen))
    by_block false false is_first is_second = (is_first, is_second)

-- x was noted at place p, and m times after it; y comes j later
later : (all : List Received) (s : Seen) (p m j : ℕ) (x : SeenTime) (y : Received) → slice_get s.places p ≡ Some (Some x) → p < 64 → s.next ≡ (p + 1 + m) % 64
    → m + j < 64 → AreStoredByRule s all → slice_get all j ≡ Some y → y.is_stored ≡ true → x.time ≡ y.seen.time → (x.is_block ≡ false) × (y.seen.is_block ≡ false)
later [] s p m j x y there low next few by_rule at stored same = absurd (cc)
later (z ∷ zs) s p m zero x y there low next few by_rule at stored same =
    let free : repeats s y.seen ≡ false =
    subst (λ (a : Received). a.is_stored ≡ true → repeats s a.seen ≡ false) (same_Some z y at) by_rule.0 stored in
    both_packets s p x y.seen there same free
later (z ∷ zs) s p m (suc j) x y there low next few by_rule at stored same =
    later zs (seen_with z.seen s) p (m + 1) j x y (set_other s.places s.next p (Some z.seen) other ∙ there) low after (omega (arith, few)) by_rule.1 at stored same
  where
    other : s.next ≡ p → ⊥
    other is = omega (arith, is, next, few, low)

    after : (s.next + 1) % 64 ≡ (p + 1 + (m + 1)) % 64
    after = omega (arith, next)

once : (all : List Received) (s : Seen) (i j : ℕ) (x y : Received) → s.next < 64 → length s.places ≡ 64 → AreStoredByRule s all → i < j → j ≤ i + 64
    → slice_get all i ≡ Some x → slice_get all j ≡ Some y → y.is_stored ≡ true → x.seen.time ≡ y.seen.time → (x.seen.is_block ≡ false) × (y.seen.is_block ≡ false)
once [] s i j x y low long by_rule before near at_x at_y stored same = absurd (cc)
once (a ∷ more) s i zero x y low long by_rule before near at_x at_y stored same = absurd (omega (arith, before))
once (a ∷ more) s zero (suc j) x y low long by_rule before near at_x at_y stored same =
    later more (seen_with a.seen s) s.next 0 j x.seen y there low (omega arith) (omega (arith, near)) by_rule.1 at_y stored same
  where
    there : slice_get (slice_set s.places s.next (Some a.seen)) s.next ≡ Some (Some x.seen)
    there = set_there s.places s.next (Some a.seen) (omega (arith, low, long)) ∙ ap (λ (c : Received). Some (Some c.seen)) (same_Some a x at_x)
once (a ∷ more) s (suc i) (suc j) x y low long by_rule before near at_x at_y stored same =
    once more (seen_with a.seen s) i j x y (omega arith) (set_length s.places s.next (Some a.seen) ∙ long) by_rule.1 (omega (arith, before)) (omega (arith, near)) at_x at_y stored same

pub stored_once : StoresEachTimeOnce
stored_once all i j x y by_rule before near at_x at_y stored_x stored_y same =
    once all none_seen i j x y (omega arith) refl by_rule before near at_x at_y stored_y same
