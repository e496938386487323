-- Groups of packets, and the packets that a packet of FEC protects.
use Rattle.std.proofs.Common.{◌≡◌, ℕ, zero, suc, ◌+◌, ◌-◌, ◌*◌, ◌%◌, ◌^◌, ◌<◌, ◌≤◌, Bool, true, false, cond, eqb, List, [], ◌∷◌, ◌++◌, length, get_or, take, drop, refl, sym, ap, ◌∙◌, subst, inl, inr, arith, add-one, drop-cons}
use Rattle.std.specs.Borrow.{Bor}
use Rattle.std.specs.Int.{bit_at}
use Rattle.std.proofs.lemmas.Bool.{cases_lt, eq-eqb, le-ltb, lt-ltb, ne_eqb}
use Rattle.std.proofs.lemmas.List.{drop_all}
use Rattle.std.proofs.lemmas.Nat.{pow_below}
use Rattle.std.proofs.lemmas.Nat.Bits.{bit_at_cat_high, bit_at_cat_low, bit_at-zero}
use Rattle.codec_payload_fec.specs.Fec.{is_set, number_at}
use Rattle.codec_payload_fec.specs.Strings.{number_of}
use Rattle.codec_payload_fec.specs.Writing.{bit_of, chosen_in, group_from, group_size, if_chosen, is_chosen, lists_of, mask_in}

-- ---- packets that are lent

pub length_lists : (ps : List (Bor (List ℕ))) → length (lists_of ps) ≡ length ps
length_lists [] = refl
length_lists (p ∷ ps) = omega (arith, length_lists ps)

pub list_at : (ps : List (Bor (List ℕ))) (i : ℕ) (d : Bor (List ℕ)) → i < length ps → get_or (lists_of ps) i [] ≡ (get_or ps i d).now
list_at [] i d h = absurd (omega (arith, h))
list_at (p ∷ ps) zero d h = refl
list_at (p ∷ ps) (suc i) d h = list_at ps i d (omega (arith, h))

pub lists_take : (n : ℕ) (ps : List (Bor (List ℕ))) → lists_of (take n ps) ≡ take n (lists_of ps)
lists_take zero ps = refl
lists_take (suc n) [] = refl
lists_take (suc n) (p ∷ ps) = ap (λ (qs : List (List ℕ)). p.now ∷ qs) (lists_take n ps)

pub lists_drop : (n : ℕ) (ps : List (Bor (List ℕ))) → lists_of (drop n ps) ≡ drop n (lists_of ps)
lists_drop zero ps = refl
lists_drop (suc n) [] = refl
lists_drop (suc n) (p ∷ ps) = lists_drop n ps

-- ---- groups

pub group_end : (base i : ℕ) (ps : List (List ℕ)) → length ps ≤ i → group_from base i (drop i ps) ≡ i
group_end base i ps h = ap (group_from base i) (drop_all i ps h)

pub group_full : (base i : ℕ) (ps : List (List ℕ)) → 48 ≤ i → group_from base i ps ≡ i
group_full base i [] h = refl
group_full base i (p ∷ ps) h = rw (le-ltb i 48 h) refl

group_here : (base i : ℕ) (ps : List (List ℕ)) (b : Bool) → i < 48 → i < length ps → eqb (number_of (get_or ps i [])) (number_at i base) ≡ b
    → group_from base i (drop i ps) ≡ cond b (group_from base (suc i) (drop (suc i) ps)) i
group_here base i ps b few h is = ap (group_from base i) (drop-cons ps i [] h) ∙ rw (lt-ltb i 48 few, is) refl

pub group_break : (base i : ℕ) (ps : List (List ℕ)) → i < 48 → i < length ps → eqb (number_of (get_or ps i [])) (number_at i base) ≡ false → group_from base i (drop i ps) ≡ i
group_break base i ps few h is = group_here base i ps false few h is

pub group_more : (base i : ℕ) (ps : List (List ℕ)) → i < 48 → i < length ps → eqb (number_of (get_or ps i [])) (number_at i base) ≡ true → group_from base i (drop i ps) ≡ group_from base (i + 1) (drop (i + 1) ps)
group_more base i ps few h is = group_here base i ps true few h is ∙ rw add-one refl

-- ---- masks

bit_cases : (c : Bool) → bit_of c < 2
bit_cases true = omega arith
bit_cases false = omega arith

pub mask_suc : (place size count n : ℕ) → mask_in (suc place) size count n ≡ mask_in place size count n * 2 + bit_of (is_chosen size count n place)
unfolding mask_in
mask_suc place size count n = refl

pub mask_more : (place size count n : ℕ) → mask_in (place + 1) size count n ≡ mask_in place size count n * 2 + bit_of (is_chosen size count n place)
mask_more place size count n = rw add-one (mask_suc place size count n)

pub mask_none : (size count n : ℕ) → mask_in 0 size count n ≡ 0
unfolding mask_in
mask_none size count n = refl

mask_below : (place size count n : ℕ) → mask_in place size count n < 2 ^ place
mask_below zero size count n = omega (arith, mask_none size count n)
mask_below (suc place) size count n =
    omega (arith, mask_suc place size count n, mask_below place size count n, bit_cases (is_chosen size count n place))

pub mask_bound : (place size count n : ℕ) → place ≤ 48 → mask_in place size count n < 281474976710656
mask_bound place size count n h =
    elim (cases_lt place 48) [
      | inl lt ↦ omega (arith, mask_below place size count n, pow_below place 48 lt)
      | inr le ↦ let is : place ≡ 48 = omega (arith, h, le) in subst (λ (k : ℕ). mask_in k size count n < 281474976710656) (sym is) (mask_below 48 size count n)
    ]

mask_bit : (k place size count n : ℕ) → place < k → bit_at (mask_in k size count n) (k - 1 - place) ≡ bit_of (is_chosen size count n place)
mask_bit zero place size count n h = absurd (omega (arith, h))
mask_bit (suc k) place size count n h =
    let b : ℕ = bit_of (is_chosen size count n k) in
    let small : b < 2 = bit_cases (is_chosen size count n k) in
    elim (cases_lt place k) [
      | inl lt ↦ let i : suc k - 1 - place ≡ (k - 1 - place) + 1 = omega (arith, lt) in
          ap (λ (m : ℕ). bit_at m (suc k - 1 - place)) (mask_suc k size count n) ∙ ap (bit_at (mask_in k size count n * 2 + b)) i
          ∙ bit_at_cat_high (mask_in k size count n) 1 b ((k - 1 - place) + 1) small (omega arith)
          ∙ ap (bit_at (mask_in k size count n)) (let j : ((k - 1 - place) + 1) - 1 ≡ k - 1 - place = omega arith in j)
          ∙ mask_bit k place size count n lt
      | inr le ↦ let same : place ≡ k = omega (arith, le, h) in let i : suc k - 1 - place ≡ 0 = omega (arith, same) in
          ap (λ (m : ℕ). bit_at m (suc k - 1 - place)) (mask_suc k size count n) ∙ ap (bit_at (mask_in k size count n * 2 + b)) i
          ∙ bit_at_cat_low (mask_in k size count n) 1 b 0 (omega arith) ∙ lowest b small ∙ ap (λ (p : ℕ). bit_of (is_chosen size count n p)) (sym same)
    ]
  where
    lowest : (b : ℕ) → b < 2 → bit_at b 0 ≡ b
    lowest b small = omega (arith, small)

is_one : (c : Bool) (b : ℕ) → b ≡ bit_of c → eqb b 1 ≡ c
is_one true b is = rw is refl
is_one false b is = rw is refl

pub set_is_chosen : (place size count n : ℕ) → place < 48 → is_set place (mask_in 48 size count n) ≡ is_chosen size count n place
unfolding is_set
set_is_chosen place size count n h = is_one (is_chosen size count n place) (bit_at (mask_in 48 size count n) (47 - place)) (mask_bit 48 place size count n h)

-- a mask with a place is not zero
pub mask_some : (place size count n : ℕ) → place < 48 → is_chosen size count n place ≡ true → 0 < mask_in 48 size count n
mask_some place size count n h is = not_zero (mask_in 48 size count n) refl
  where
    one : bit_at (mask_in 48 size count n) (47 - place) ≡ 1
    one = mask_bit 48 place size count n h ∙ ap bit_of is

    not_zero : (m : ℕ) → mask_in 48 size count n ≡ m → 0 < m
    not_zero zero e = absurd (omega (arith, sym one ∙ ap (λ (m : ℕ). bit_at m (47 - place)) e ∙ bit_at-zero (47 - place)))
    not_zero (suc m) e = omega arith

-- ---- chosen packets

pub chosen_suc : (place count n : ℕ) (group : List (List ℕ)) → chosen_in (suc place) count n group ≡ chosen_in place count n group ++ if_chosen (is_chosen (length group) count n place) (get_or group place [])
unfolding chosen_in
chosen_suc place count n group = refl

pub chosen_more : (place count n : ℕ) (group : List (List ℕ)) → chosen_in (place + 1) count n group ≡ chosen_in place count n group ++ if_chosen (is_chosen (length group) count n place) (get_or group place [])
chosen_more place count n group = rw add-one (chosen_suc place count n group)

pub chosen_none : (count n : ℕ) (group : List (List ℕ)) → chosen_in 0 count n group ≡ []
unfolding chosen_in
chosen_none count n group = refl

-- ---- what the code tests

pub chosen_yes : (group : List (Bor (List ℕ))) (count n place : ℕ) (d : Bor (List ℕ)) → place < length group → place % count ≡ n
    → (get_or group place d).now ∷ [] ≡ if_chosen (is_chosen (length (lists_of group)) count n place) (get_or (lists_of group) place [])
chosen_yes group count n place d h e =
    rw (length_lists group, lt-ltb place (length group) h, eq-eqb (place % count) n e) (ap (λ (p : List ℕ). p ∷ []) (sym (list_at group place d h)))

pub chosen_beyond : (group : List (Bor (List ℕ))) (count n place : ℕ) → length group ≤ place → [] ≡ if_chosen (is_chosen (length (lists_of group)) count n place) (get_or (lists_of group) place [])
chosen_beyond group count n place h = rw (length_lists group, le-ltb place (length group) h) refl

pub chosen_other : (group : List (Bor (List ℕ))) (count n place : ℕ) → place < length group → (place % count ≡ n → ⊥) → [] ≡ if_chosen (is_chosen (length (lists_of group)) count n place) (get_or (lists_of group) place [])
chosen_other group count n place h e = rw (length_lists group, lt-ltb place (length group) h, ne_eqb (place % count) n e) refl

-- the size of the group at a place where it ends
pub size_is : (packets : List (Bor (List ℕ))) (d : Bor (List ℕ)) (base size : ℕ) → 0 < length packets → base ≡ number_of (get_or packets 0 d).now
    → group_from base 1 (drop 1 (lists_of packets)) ≡ group_from base size (drop size (lists_of packets)) → group_from base size (drop size (lists_of packets)) ≡ size → size ≡ group_size (lists_of packets)
size_is packets d base size some is inv end =
    sym end ∙ sym inv ∙ ap (λ (b : ℕ). group_from b 1 (drop 1 (lists_of packets))) (is ∙ ap number_of (sym (list_at packets 0 d some)))

pub size_end : (packets : List (Bor (List ℕ))) (base size : ℕ) → length packets ≤ size → group_from base size (drop size (lists_of packets)) ≡ size
size_end packets base size h = group_end base size (lists_of packets) (omega (arith, length_lists packets, h))

pub size_break : (packets : List (Bor (List ℕ))) (d : Bor (List ℕ)) (base size : ℕ) → size < 48 → size < length packets → false ≡ eqb (number_of (get_or packets size d).now) (number_at size base)
    → group_from base size (drop size (lists_of packets)) ≡ size
size_break packets d base size few h e =
    group_break base size (lists_of packets) few (omega (arith, length_lists packets, h)) (ap (λ (p : List ℕ). eqb (number_of p) (number_at size base)) (list_at packets size d h) ∙ sym e)

pub size_more : (packets : List (Bor (List ℕ))) (d : Bor (List ℕ)) (base size : ℕ) → size < 48 → size < length packets → true ≡ eqb (number_of (get_or packets size d).now) (number_at size base)
    → group_from base size (drop size (lists_of packets)) ≡ group_from base (size + 1) (drop (size + 1) (lists_of packets))
size_more packets d base size few h e =
    group_more base size (lists_of packets) few (omega (arith, length_lists packets, h)) (ap (λ (p : List ℕ). eqb (number_of p) (number_at size base)) (list_at packets size d h) ∙ sym e)
