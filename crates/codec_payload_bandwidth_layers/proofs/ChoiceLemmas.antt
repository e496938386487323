-- The highest choice that is carried.
use Rattle.std.specs.Prelude.{if◌then◌else◌}
use Rattle.std.proofs.Common.{◌≡◌, ◌∙◌, ◌⊎◌, inl, inr, ℕ, zero, suc, ◌+◌, ◌-◌, ◌^◌, ◌≤◌, ◌<◌, ◌&&◌, ◌||◌, min, max, Bool, true, false, List, [], ◌∷◌, length, take, refl, subst, arith, nat_le, nat_lt, length-take}
use Rattle.std.proofs.lemmas.Bool.Decides.{nat_tests}
use Rattle.codec_payload_bandwidth_layers.specs.declared.chooser.LayerChoice.{LayerChoice}
use Rattle.codec_payload_bandwidth_layers.specs.declared.chooser.LayerChooser.{LayerChooser}
use Rattle.codec_payload_bandwidth_layers.specs.Choices.{Ascends, AreBefore, Call, Fits, IsStable, PausesHold, TrialRaises, after_choice, choice_at, choice_of, held_of, highest, is_carried, needs, next_of, trial_rate}

-- ---- what is carried

abbrev pub Carried : (current carries index : ℕ) → LayerChoice → Type 0
Carried current carries index choice = is_carried current carries index choice ≡ true

le_true : (m n : ℕ) → m ≤ n → nat_le m n ≡ true
le_true m n h = grind (arith, nat_tests)

true_le : (m n : ℕ) → nat_le m n ≡ true → m ≤ n
true_le m n h = grind (arith, nat_tests)

test_cases : (a b d : Bool) → ((a && b) || d) ≡ true → ((a ≡ true) × (b ≡ true)) ⊎ (d ≡ true)
test_cases true true d h = inl (refl, refl)
test_cases true false d h = inr h
test_cases false b d h = inr h

test_first : (a b d : Bool) → a ≡ true → b ≡ true → ((a && b) || d) ≡ true
test_first true true d ha hb = refl
test_first true false d ha hb = cc
test_first false b d ha hb = cc

test_second : (a b d : Bool) → d ≡ true → ((a && b) || d) ≡ true
test_second true true d h = refl
test_second true false d h = h
test_second false b d h = h

carried_cases : (current carries index : ℕ) (x : LayerChoice) → Carried current carries index x → ((index ≤ current) × (x.rate ≤ carries)) ⊎ (needs x ≤ carries)
carried_cases current carries index x h = by_case (test_cases (nat_le index current) (nat_le x.rate carries) (nat_le (needs x) carries) h)
  where
    by_case : ((nat_le index current ≡ true) × (nat_le x.rate carries ≡ true)) ⊎ (nat_le (needs x) carries ≡ true) → ((index ≤ current) × (x.rate ≤ carries)) ⊎ (needs x ≤ carries)
    by_case (inl (a, b)) = inl (true_le index current a, true_le x.rate carries b)
    by_case (inr d) = inr (true_le (needs x) carries d)

carried_low : (current carries index : ℕ) (x : LayerChoice) → index ≤ current → x.rate ≤ carries → Carried current carries index x
carried_low current carries index x a b =
    test_first (nat_le index current) (nat_le x.rate carries) (nat_le (needs x) carries) (le_true index current a) (le_true x.rate carries b)

carried_high : (current carries index : ℕ) (x : LayerChoice) → needs x ≤ carries → Carried current carries index x
carried_high current carries index x d = test_second (nat_le index current) (nat_le x.rate carries) (nat_le (needs x) carries) (le_true (needs x) carries d)

rate_within : (x : LayerChoice) → x.rate ≤ needs x
rate_within x = omega arith

carried_rate : (current carries index : ℕ) (x : LayerChoice) → Carried current carries index x → x.rate ≤ carries
carried_rate current carries index x h = by_case (carried_cases current carries index x h)
  where
    by_case : ((index ≤ current) × (x.rate ≤ carries)) ⊎ (needs x ≤ carries) → x.rate ≤ carries
    by_case (inl (a, b)) = b
    by_case (inr d) = omega (arith, d, rate_within x)

-- ---- the highest

-- `r` is `best`, or a choice from `index` on that is carried
abbrev pub Found : (current carries index best : ℕ) → List LayerChoice → ℕ → Type 0
Found current carries index best choices r =
    (r ≡ best) ⊎ ((k : ℕ) × (k < length choices) × (r ≡ index + k) × Carried current carries (index + k) (choice_at k choices))

one_before : (current carries index best r : ℕ) (x : LayerChoice) (xs : List LayerChoice) (b : Bool) → is_carried current carries index x ≡ b
    → Found current carries (index + 1) (if b then index else best) xs r → Found current carries index best (x ∷ xs) r
one_before current carries index best r x xs true is (inl e) =
    let same : index ≡ index + 0 = omega arith in
    inr (0, omega arith, e ∙ same, subst (λ (n : ℕ). Carried current carries n x) same is)
one_before current carries index best r x xs false is (inl e) = inl e
one_before current carries index best r x xs b is (inr (k, within, e, carried)) =
    let same : (index + 1) + k ≡ index + suc k = omega arith in
    inr (suc k, omega (arith, within), e ∙ same, subst (λ (n : ℕ). Carried current carries n (choice_at k xs)) same carried)

found : (current carries index best : ℕ) (xs : List LayerChoice) → Found current carries index best xs (highest current carries index best xs)
found current carries index best [] = inl refl
found current carries index best (x ∷ xs) =
    one_before current carries index best (highest current carries index best (x ∷ xs)) x xs (is_carried current carries index x) refl
    (found current carries (index + 1) (if is_carried current carries index x then index else best) xs)

chosen_or : (index best : ℕ) (b : Bool) → best ≤ index → (best ≤ (if b then index else best)) × ((if b then index else best) ≤ index + 1)
chosen_or index best true h = (h, omega arith)
chosen_or index best false h = (omega arith, omega (arith, h))

no_less : (current carries index best : ℕ) (xs : List LayerChoice) → best ≤ index → best ≤ highest current carries index best xs
no_less current carries index best [] h = omega arith
no_less current carries index best (x ∷ xs) h =
    let next : ℕ = if is_carried current carries index x then index else best in
    let either = chosen_or index best (is_carried current carries index x) h in
    omega (arith, either.0, no_less current carries (index + 1) next xs either.1)

-- what is carried is reached
reached_first : (current carries index best : ℕ) (xs : List LayerChoice) (b : Bool) → b ≡ true → index ≤ highest current carries (index + 1) (if b then index else best) xs
reached_first current carries index best xs true is = no_less current carries (index + 1) index xs (omega arith)
reached_first current carries index best xs false is = cc

reaches : (current carries index best : ℕ) (xs : List LayerChoice) (k : ℕ) → best ≤ index → k < length xs → Carried current carries (index + k) (choice_at k xs)
    → index + k ≤ highest current carries index best xs
reaches current carries index best [] k h within carried = absurd (omega (arith, within))
reaches current carries index best (x ∷ xs) zero h within carried =
    let same : index + 0 ≡ index = omega arith in
    omega (arith, reached_first current carries index best xs (is_carried current carries index x) (subst (λ (n : ℕ). Carried current carries n x) same carried))
reaches current carries index best (x ∷ xs) (suc k) h within carried =
    let same : index + suc k ≡ (index + 1) + k = omega arith in
    let next : ℕ = if is_carried current carries index x then index else best in
    omega (
      arith,
      reaches current carries (index + 1) next xs k (chosen_or index best (is_carried current carries index x) h).1 (omega (arith, within))
          (subst (λ (n : ℕ). Carried current carries n (choice_at k xs)) same carried),
    )

-- ---- the theorems

abbrev pub Chosen : (current carries : ℕ) → List LayerChoice → ℕ → Type 0
Chosen current carries xs r = Found current carries 0 0 xs r

reached : (current carries k : ℕ) (xs : List LayerChoice) → k < length xs → Carried current carries (0 + k) (choice_at k xs) → k ≤ choice_of current carries xs
reached current carries k xs within carried = omega (arith, reaches current carries 0 0 xs k (omega arith) within carried)

pub fits : Fits
fits current carries xs = by_case (choice_of current carries xs) (found current carries 0 0 xs)
  where
    by_case : (r : ℕ) → Chosen current carries xs r → (r ≡ 0) ⊎ ((choice_at r xs).rate ≤ carries)
    by_case r (inl e) = inl e
    by_case r (inr (k, within, e, carried)) =
        let same : k ≡ r = omega (arith, e) in
        inr (subst (λ (n : ℕ). (choice_at n xs).rate ≤ carries) same (carried_rate current carries (0 + k) (choice_at k xs) carried))

-- the choice stays at least
stays : (current carries : ℕ) (xs : List LayerChoice) (r : ℕ) → Chosen current carries xs r → r ≤ choice_of r carries xs
stays current carries xs r (inl e) = omega (arith, e)
stays current carries xs r (inr (k, within, e, carried)) =
    omega (arith, e, reached r carries k xs within (carried_low r carries (0 + k) (choice_at k xs) (omega (arith, e)) (carried_rate current carries (0 + k) (choice_at k xs) carried)))

-- and at most
rests : (current carries : ℕ) (xs : List LayerChoice) (s : ℕ) → Chosen (choice_of current carries xs) carries xs s → s ≤ choice_of current carries xs
rests current carries xs s (inl e) = omega (arith, e)
rests current carries xs s (inr (k, within, e, carried)) =
    by_case (carried_cases (choice_of current carries xs) carries (0 + k) (choice_at k xs) carried)
  where
    by_case : ((0 + k ≤ choice_of current carries xs) × ((choice_at k xs).rate ≤ carries)) ⊎ (needs (choice_at k xs) ≤ carries) → s ≤ choice_of current carries xs
    by_case (inl (low, _)) = omega (arith, e, low)
    by_case (inr high) = omega (arith, e, reached current carries k xs within (carried_high current carries (0 + k) (choice_at k xs) high))

pub is_stable : IsStable
is_stable current carries xs =
    let r : ℕ = choice_of current carries xs in
    omega (arith, stays current carries xs r (found current carries 0 0 xs), rests current carries xs (choice_of r carries xs) (found r carries 0 0 xs))

pub ascends : Ascends
ascends current carries more xs h = by_case (choice_of current carries xs) (found current carries 0 0 xs)
  where
    at_more : (k : ℕ) → ((0 + k ≤ current) × ((choice_at k xs).rate ≤ carries)) ⊎ (needs (choice_at k xs) ≤ carries) → Carried current more (0 + k) (choice_at k xs)
    at_more k (inl (low, rate)) = carried_low current more (0 + k) (choice_at k xs) low (omega (arith, rate, h))
    at_more k (inr high) = carried_high current more (0 + k) (choice_at k xs) (omega (arith, high, h))

    by_case : (r : ℕ) → Chosen current carries xs r → r ≤ choice_of current more xs
    by_case r (inl e) = omega (arith, e)
    by_case r (inr (k, within, e, carried)) =
        omega (arith, e, reached current more k xs within (at_more k (carried_cases current carries (0 + k) (choice_at k xs) carried)))

tried : (x : LayerChoice) (carries : ℕ) → carries < 2 ^ 64 - 1 → trial_rate x ≤ carries → needs x ≤ carries
tried x carries bound h = omega (arith, bound, h)

pub trial_raises : TrialRaises
trial_raises current carries index xs within bound h =
    reached current carries index xs within (carried_high current carries (0 + index) (choice_at index xs) (tried (choice_at index xs) carries bound h))

-- ---- pauses

-- among the choices up to the current one none is higher
no_higher : (current carries : ℕ) (xs : List LayerChoice) → held_of current carries xs ≤ current
no_higher current carries xs = by_case (held_of current carries xs) (found current carries 0 0 (take (current + 1) xs))
  where
    by_case : (r : ℕ) → Chosen current carries (take (current + 1) xs) r → r ≤ current
    by_case r (inl e) = omega (arith, e)
    by_case r (inr (k, within, e, carried)) = omega (arith, e, within, length-take (current + 1) xs)

next_held : (now carries : ℕ) (xs : List LayerChoice) (c : LayerChooser) (b : Bool) → b ≡ true
    → (if b then held_of c.current carries xs else choice_of c.current carries xs) ≤ c.current
next_held now carries xs c true is = no_higher c.current carries xs
next_held now carries xs c false is = cc

next_paused : (now carries : ℕ) (xs : List LayerChoice) (c : LayerChooser) → now < c.rises_from → next_of now carries xs c ≤ c.current
next_paused now carries xs c h =
    let before : nat_lt now c.rises_from ≡ true = grind (arith, nat_tests) in next_held now carries xs c (nat_lt now c.rises_from) before

if_later : (a b : ℕ) (t : Bool) → a ≤ (if t then max a b else a)
if_later a b true = omega arith
if_later a b false = omega arith

longer : (now carries : ℕ) (xs : List LayerChoice) (c : LayerChooser) → c.rises_from ≤ (after_choice now carries xs c).rises_from
longer now carries xs c = if_later c.rises_from (min (now + c.pause) (2 ^ 64 - 1)) (nat_lt (next_of now carries xs c) c.current)

before_later : (end later : ℕ) (calls : List Call) → end ≤ later → AreBefore end calls → AreBefore later calls
before_later end later [] h all = tt
before_later end later (call ∷ calls) h (first, rest) = (omega (arith, first, h), before_later end later calls h rest)

pub pauses_hold : PausesHold
pauses_hold c [] all = omega arith
pauses_hold c (call ∷ calls) (first, rest) =
    let next : LayerChooser = after_choice call.now call.carries call.choices c in
    omega (
      arith,
      next_paused call.now call.carries call.choices c first,
      pauses_hold next calls (before_later c.rises_from next.rises_from calls (longer call.now call.carries call.choices c) rest),
    )
