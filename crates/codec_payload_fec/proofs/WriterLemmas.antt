-- Packets of FEC of groups, and what they rebuild.
use Rattle.std.proofs.Common.{◌≡◌, ℕ, zero, suc, ◌+◌, ◌/◌, ◌%◌, ◌<◌, ◌≤◌, Bool, true, false, cond, eqb, ltb, List, [], ◌∷◌, ◌++◌, length, get_or, take, drop, map, Option, Some, None, refl, sym, ap, ◌∙◌, subst, inl, inr, arith, add-one, length-drop}
use Rattle.std.specs.Prelude.{◌&&◌, ◌⊎◌, IfSome}
use Rattle.std.proofs.lemmas.Bool.{eqb-true, ltb-true, ne_eqb}
use Rattle.std.proofs.lemmas.List.{get_or-take, length-take, map-append}
use Rattle.codec_payload_base.specs.Flags.{AreBytes}
use Rattle.codec_payload_fec.specs.Fec.{Fec, if_set, is_set, mask_of, number_at, numbers_in}
use Rattle.codec_payload_fec.specs.Protecting.{AllCameOrLost, AreOfStream, CameOrLost, IsAmong, IsOfStream, Protects}
use Rattle.codec_payload_fec.specs.Rebuilding.{rebuilt}
use Rattle.codec_payload_fec.specs.Strings.{bit_string, number_of, xor_all}
use Rattle.codec_payload_fec.specs.Writing.{AreShort, IsOneOf, RebuiltIsSent, chosen_in, fec_for, fecs, fecs_below, fecs_in, first_number, group_fecs, group_from, group_size, if_chosen, is_chosen, low_bits, mask_in, fec_count}
use Rattle.codec_payload_fec.proofs.GroupLemmas.{chosen_none, chosen_suc, set_is_chosen}
use Rattle.codec_payload_fec.proofs.ProtectLemmas.{rebuilds_packets}
use Rattle.codec_payload_fec.proofs.RebuildLemmas.{numbers_are, numbers_none, numbers_suc}
use Rattle.codec_payload_fec.proofs.WholeSums.{length_bits}
use Rattle.codec_payload_fec.proofs.XorLemmas.{length_xor}

-- ---- groups

and_left : (a b : Bool) → (a && b) ≡ true → a ≡ true
and_left true b h = refl
and_left false b h = absurd cc

pub group_ge : (base i : ℕ) (ps : List (List ℕ)) → i ≤ group_from base i ps
group_ge base i [] = omega arith
group_ge base i (p ∷ ps) = by_test (ltb i 48 && eqb (number_of p) (number_at i base)) (group_ge base (suc i) ps)
  where
    by_test : (b : Bool) → suc i ≤ group_from base (suc i) ps → i ≤ cond b (group_from base (suc i) ps) i
    by_test true h = omega (arith, h)
    by_test false h = omega arith

-- the numbers of a group are consecutive
pub group_at : (base i j : ℕ) (ps : List (List ℕ)) → i + j < group_from base i ps → number_of (get_or ps j []) ≡ number_at (i + j) base
group_at base i j [] h = absurd (omega (arith, h))
group_at base i j (p ∷ ps) h = by_test (ltb i 48) (eqb (number_of p) (number_at i base)) refl refl (λ k. group_at base (suc i) k ps)
  where
    more : (j : ℕ) → ((k : ℕ) → suc i + k < group_from base (suc i) ps → number_of (get_or ps k []) ≡ number_at (suc i + k) base) → i + j < group_from base (suc i) ps → number_of p ≡ number_at i base
        → number_of (get_or (p ∷ ps) j []) ≡ number_at (i + j) base
    more zero after h is = let k : i + 0 ≡ i = omega arith in is ∙ ap (λ (n : ℕ). number_at n base) (sym k)
    more (suc j) after h is = let k : suc i + j ≡ i + suc j = omega arith in after j (omega (arith, h)) ∙ ap (λ (n : ℕ). number_at n base) k

    by_test : (a b : Bool) → ltb i 48 ≡ a → eqb (number_of p) (number_at i base) ≡ b
        → ((k : ℕ) → suc i + k < group_from base (suc i) ps → number_of (get_or ps k []) ≡ number_at (suc i + k) base) → number_of (get_or (p ∷ ps) j []) ≡ number_at (i + j) base
    by_test true true e1 e2 after = more j after (let k : i + j < group_from base i (p ∷ ps) = h in rw (e1, e2) at k) (eqb-true (number_of p) (number_at i base) e2)
    by_test true false e1 e2 after = absurd (let k : i + j < group_from base i (p ∷ ps) = h in omega (arith, rw (e1, e2) at k))
    by_test false b e1 e2 after = absurd (let k : i + j < group_from base i (p ∷ ps) = h in omega (arith, rw e1 at k))

-- ---- the packets of FEC of a group

-- packets with consecutive numbers
abbrev AreNumbered : ℕ → List (List ℕ) → Type 0
AreNumbered base group = (i : ℕ) → i < length group → number_of (get_or group i []) ≡ number_at i base

one_place : (c : Bool) (number : ℕ) (p : List ℕ) → (c ≡ true → number_of p ≡ number) → if_set c number ≡ map number_of (if_chosen c p)
one_place true number p h = ap (λ (n : ℕ). n ∷ []) (sym (h refl))
one_place false number p h = refl

numbers_chosen : (place base count n : ℕ) (group : List (List ℕ)) → place ≤ 48 → AreNumbered base group → numbers_in place (mask_in 48 (length group) count n) base ≡ map number_of (chosen_in place count n group)
numbers_chosen zero base count n group h are = numbers_none (mask_in 48 (length group) count n) base ∙ sym (ap (map number_of) (chosen_none count n group))
numbers_chosen (suc place) base count n group h are =
    let mask : ℕ = mask_in 48 (length group) count n in
    let c : Bool = is_chosen (length group) count n place in
    let p : List ℕ = get_or group place [] in
    numbers_suc place mask base
    ∙ ap (λ (ns : List ℕ). ns ++ if_set (is_set place mask) (number_at place base)) (numbers_chosen place base count n group (omega (arith, h)) are)
    ∙ ap (λ (b : Bool). map number_of (chosen_in place count n group) ++ if_set b (number_at place base)) (set_is_chosen place (length group) count n (omega (arith, h)))
    ∙ ap (λ (ns : List ℕ). map number_of (chosen_in place count n group) ++ ns) (one_place c (number_at place base) p (λ e. are place (ltb-true place (length group) (and_left (ltb place (length group)) (eqb (place % count) n) e))))
    ∙ sym (map-append number_of (chosen_in place count n group) (if_chosen c p))
    ∙ ap (map number_of) (sym (chosen_suc place count n group))

pub mask_again : (mask : ℕ) → mask_of (mask / 4294967296) (low_bits (mask % 4294967296)) ≡ mask
mask_again mask = by_low (mask % 4294967296) refl
  where
    by_low : (low : ℕ) → mask % 4294967296 ≡ low → mask_of (mask / 4294967296) (low_bits low) ≡ mask
    by_low zero e = omega (arith, e)
    by_low (suc low) e = rw (ne_eqb (suc low) 0 (λ h. omega (arith, h))) (omega (arith, e))

protects : (count n : ℕ) (group : List (List ℕ)) → AreNumbered (first_number group) group → Protects (fec_for count n group) (chosen_in 48 count n group)
protects count n group are =
    let mask : ℕ = mask_in 48 (length group) count n in
    record {
      numbers_are = numbers_are (fec_for count n group) ∙ ap (λ (m : ℕ). numbers_in 48 m (first_number group)) (mask_again mask) ∙ numbers_chosen 48 (first_number group) count n group (omega arith) are;
      is_sum = refl;
    }

-- ---- all packets

abbrev pub AreAmong : List (List ℕ) → List (List ℕ) → Type 0
AreAmong [] qs = Unit {0}
AreAmong (p ∷ ps) qs = IsAmong p qs × AreAmong ps qs

among_more : (p q : List ℕ) (qs : List (List ℕ)) → IsAmong p qs → IsAmong p (q ∷ qs)
among_more p q qs h = inr h

among_at : (qs : List (List ℕ)) (i : ℕ) → i < length qs → IsAmong (get_or qs i []) qs
among_at [] i h = absurd (omega (arith, h))
among_at (q ∷ qs) zero h = inl refl
among_at (q ∷ qs) (suc i) h = inr (among_at qs i (omega (arith, h)))

among_append : (ps ps' qs : List (List ℕ)) → AreAmong ps qs → AreAmong ps' qs → AreAmong (ps ++ ps') qs
among_append [] ps' qs h h' = h'
among_append (p ∷ ps) ps' qs h h' = (h.0, among_append ps ps' qs h.1 h')

chosen_among : (place count n : ℕ) (group : List (List ℕ)) → AreAmong (chosen_in place count n group) group
chosen_among zero count n group = subst (λ (ps : List (List ℕ)). AreAmong ps group) (sym (chosen_none count n group)) tt
chosen_among (suc place) count n group =
    subst (λ (ps : List (List ℕ)). AreAmong ps group) (sym (chosen_suc place count n group))
    (among_append (chosen_in place count n group) (if_chosen (is_chosen (length group) count n place) (get_or group place [])) group (chosen_among place count n group) (one (is_chosen (length group) count n place) refl))
  where
    one : (c : Bool) → is_chosen (length group) count n place ≡ c → AreAmong (if_chosen c (get_or group place [])) group
    one true e = (among_at group place (ltb-true place (length group) (and_left (ltb place (length group)) (eqb (place % count) n) e)), tt)
    one false e = tt

-- what holds of all packets holds of those that are among them
of_stream_one : (ssrc : ℕ) (p : List ℕ) (qs : List (List ℕ)) → IsAmong p qs → AreOfStream ssrc qs → IsOfStream ssrc p
of_stream_one ssrc p [] h are = absurd h
of_stream_one ssrc p (q ∷ qs) (inl is) are = subst (IsOfStream ssrc) (sym is) are.0
of_stream_one ssrc p (q ∷ qs) (inr h) are = of_stream_one ssrc p qs h are.1

came_one : (find : ℕ → Option (List ℕ)) (p : List ℕ) (qs : List (List ℕ)) → IsAmong p qs → AllCameOrLost find qs → CameOrLost find p
came_one find p [] h all = absurd h
came_one find p (q ∷ qs) (inl is) all = subst (CameOrLost find) (sym is) all.0
came_one find p (q ∷ qs) (inr h) all = came_one find p qs h all.1

of_stream_all : (ssrc : ℕ) (ps qs : List (List ℕ)) → AreAmong ps qs → AreOfStream ssrc qs → AreOfStream ssrc ps
of_stream_all ssrc [] qs h are = tt
of_stream_all ssrc (p ∷ ps) qs h are = (of_stream_one ssrc p qs h.0 are, of_stream_all ssrc ps qs h.1 are)

came_all : (find : ℕ → Option (List ℕ)) (ps qs : List (List ℕ)) → AreAmong ps qs → AllCameOrLost find qs → AllCameOrLost find ps
came_all find [] qs h all = tt
came_all find (p ∷ ps) qs h all = (came_one find p qs h.0 all, came_all find ps qs h.1 all)

among_all : (p : List ℕ) (ps qs : List (List ℕ)) → IsAmong p ps → AreAmong ps qs → IsAmong p qs
among_all p [] qs h all = absurd h
among_all p (q ∷ ps) qs (inl is) all = subst (λ (x : List ℕ). IsAmong x qs) (sym is) all.0
among_all p (q ∷ ps) qs (inr h) all = among_all p ps qs h all.1

-- a packet of FEC was made from some of these packets
pub record IsMade (f : Fec) (qs : List (List ℕ)) : Type 0 where
  pub packets : List (List ℕ)
  pub are : AreAmong packets qs
  pub is : Protects f packets

among_take : (p : List ℕ) (size : ℕ) (qs : List (List ℕ)) → IsAmong p (take size qs) → IsAmong p qs
among_take p zero qs h = absurd h
among_take p (suc size) [] h = absurd h
among_take p (suc size) (q ∷ qs) (inl is) = inl is
among_take p (suc size) (q ∷ qs) (inr h) = inr (among_take p size qs h)

among_drop : (p : List ℕ) (size : ℕ) (qs : List (List ℕ)) → IsAmong p (drop size qs) → IsAmong p qs
among_drop p zero qs h = h
among_drop p (suc size) [] h = absurd h
among_drop p (suc size) (q ∷ qs) h = inr (among_drop p size qs h)

are_take : (ps : List (List ℕ)) (size : ℕ) (qs : List (List ℕ)) → AreAmong ps (take size qs) → AreAmong ps qs
are_take [] size qs h = tt
are_take (p ∷ ps) size qs h = (among_take p size qs h.0, are_take ps size qs h.1)

are_drop : (ps : List (List ℕ)) (size : ℕ) (qs : List (List ℕ)) → AreAmong ps (drop size qs) → AreAmong ps qs
are_drop [] size qs h = tt
are_drop (p ∷ ps) size qs h = (among_drop p size qs h.0, are_drop ps size qs h.1)

one_of_append : (f : Fec) (fs gs : List Fec) → IsOneOf f (fs ++ gs) → IsOneOf f fs ⊎ IsOneOf f gs
one_of_append f [] gs h = inr h
one_of_append f (g ∷ fs) gs (inl is) = inl (inl is)
one_of_append f (g ∷ fs) gs (inr h) = elim (one_of_append f fs gs h) [ inl a ↦ inl (inr a) | inr b ↦ inr b ]

made_below : (n count : ℕ) (f : Fec) (group : List (List ℕ)) → AreNumbered (first_number group) group → IsOneOf f (fecs_below n count group) → IsMade f group
made_below zero count f group are h = absurd h
made_below (suc n) count f group are h =
    elim (one_of_append f (fecs_below n count group) (fec_for count n group ∷ []) h) [
      | inl before ↦ made_below n count f group are before
      | inr last ↦ elim last [ inl is ↦ subst (λ (g : Fec). IsMade g group) (sym is) (record { packets = chosen_in 48 count n group; are = chosen_among 48 count n group; is = protects count n group are }) | inr none ↦ absurd none ]
    ]

small_number : (p : List ℕ) → AreBytes p → number_of p < 65536
unfolding number_of
small_number [] are = omega arith
small_number (a ∷ []) are = omega arith
small_number (a ∷ b ∷ []) are = omega arith
small_number (a ∷ b ∷ c ∷ []) are = omega arith
small_number (a ∷ b ∷ c ∷ d ∷ p) are = omega (arith, are 2, are 3)

-- a group has consecutive numbers
group_numbered : (p : List ℕ) (ps : List (List ℕ)) → AreBytes p → AreNumbered (number_of p) (take (group_size (p ∷ ps)) (p ∷ ps))
group_numbered p ps are i h =
    let size : ℕ = group_size (p ∷ ps) in
    let below : i < size = omega (arith, h, length-take size (p ∷ ps)) in
    ap number_of (get_or-take size (p ∷ ps) i [] below) ∙ at i below
  where
    at : (i : ℕ) → i < group_from (number_of p) 1 ps → number_of (get_or (p ∷ ps) i []) ≡ number_at i (number_of p)
    at zero h = omega (arith, small_number p are)
    at (suc i) h = let k : 1 + i ≡ suc i = omega arith in group_at (number_of p) 1 i ps (omega (arith, h)) ∙ ap (λ (n : ℕ). number_at n (number_of p)) k

first_taken : (p : List ℕ) (ps : List (List ℕ)) (size : ℕ) → 1 ≤ size → first_number (take size (p ∷ ps)) ≡ number_of p
first_taken p ps zero h = absurd (omega (arith, h))
first_taken p ps (suc size) h = refl

pub made_in : (m protection ssrc : ℕ) (f : Fec) (qs : List (List ℕ)) → AreOfStream ssrc qs → IsOneOf f (fecs_in m protection qs) → IsMade f qs
unfolding fecs_in
made_in zero protection ssrc f qs are h = absurd h
made_in (suc m) protection ssrc f [] are h = absurd h
made_in (suc m) protection ssrc f (p ∷ ps) are h =
    elim (one_of_append f (group_fecs protection (take size (p ∷ ps))) (fecs_in m protection (drop size (p ∷ ps))) h) [
      | inl here ↦ from_group (made_below (fec_count (length (take size (p ∷ ps))) protection) (fec_count (length (take size (p ∷ ps))) protection) f (take size (p ∷ ps)) numbered here)
      | inr later ↦ from_rest (made_in m protection ssrc f (drop size (p ∷ ps)) (dropped size (p ∷ ps) are) later)
    ]
  where
    size : ℕ
    size = group_size (p ∷ ps)

    numbered : AreNumbered (first_number (take size (p ∷ ps))) (take size (p ∷ ps))
    numbered = subst (λ (base : ℕ). AreNumbered base (take size (p ∷ ps))) (sym (first_taken p ps size (group_ge (number_of p) 1 ps))) (group_numbered p ps are.0.are_bytes)

    dropped : (n : ℕ) (qs : List (List ℕ)) → AreOfStream ssrc qs → AreOfStream ssrc (drop n qs)
    dropped zero qs are = are
    dropped (suc n) [] are = tt
    dropped (suc n) (q ∷ qs) are = dropped n qs are.1

    from_group : IsMade f (take size (p ∷ ps)) → IsMade f (p ∷ ps)
    from_group made = record { packets = made.packets; are = are_take made.packets size (p ∷ ps) made.are; is = made.is }

    from_rest : IsMade f (drop size (p ∷ ps)) → IsMade f (p ∷ ps)
    from_rest made = record { packets = made.packets; are = are_drop made.packets size (p ∷ ps) made.are; is = made.is }

pub rebuilt_is_sent : RebuiltIsSent
rebuilt_is_sent ssrc protection sent f find are h came =
    let made = made_in (length sent) protection ssrc f sent are h in
    weaker (rebuilt ssrc f find) made.packets made.are
    (rebuilds_packets ssrc f made.packets find made.is (of_stream_all ssrc made.packets sent made.are are) (came_all find made.packets sent made.are came))
  where
    weaker : (o : Option (List ℕ)) (ps : List (List ℕ)) → AreAmong ps sent → IfSome o (λ p. IsAmong p ps × (find (number_of p) ≡ None)) → IfSome o (λ p. IsAmong p sent × (find (number_of p) ≡ None))
    weaker None ps all h = tt
    weaker (Some p) ps all h = (among_all p ps sent h.0 all, h.1)

-- ---- lengths and counts

pub short_bytes : (ps : List (List ℕ)) → AreShort ps → length (xor_all ps).bytes < 65536
short_bytes [] short = omega arith
short_bytes (p ∷ ps) short = omega (arith, length_xor (bit_string p).bytes (xor_all ps).bytes, length_bits p, short.0, short_bytes ps short.1)

short_append : (ps qs : List (List ℕ)) → AreShort ps → AreShort qs → AreShort (ps ++ qs)
short_append [] qs h h' = h'
short_append (p ∷ ps) qs h h' = (h.0, short_append ps qs h.1 h')

short_at : (ps : List (List ℕ)) (i : ℕ) → AreShort ps → length (get_or ps i []) < 65548
short_at [] i h = omega arith
short_at (p ∷ ps) zero h = h.0
short_at (p ∷ ps) (suc i) h = short_at ps i h.1

pub short_chosen : (place count n : ℕ) (group : List (List ℕ)) → AreShort group → AreShort (chosen_in place count n group)
short_chosen zero count n group h = subst AreShort (sym (chosen_none count n group)) tt
short_chosen (suc place) count n group h =
    subst AreShort (sym (chosen_suc place count n group)) (short_append (chosen_in place count n group) (if_chosen (is_chosen (length group) count n place) (get_or group place [])) (short_chosen place count n group h) (one (is_chosen (length group) count n place)))
  where
    one : (c : Bool) → AreShort (if_chosen c (get_or group place []))
    one true = (short_at group place h, tt)
    one false = tt

pub short_take : (n : ℕ) (ps : List (List ℕ)) → AreShort ps → AreShort (take n ps)
short_take zero ps h = tt
short_take (suc n) [] h = tt
short_take (suc n) (p ∷ ps) h = (h.0, short_take n ps h.1)

pub short_drop : (n : ℕ) (ps : List (List ℕ)) → AreShort ps → AreShort (drop n ps)
short_drop zero ps h = h
short_drop (suc n) [] h = tt
short_drop (suc n) (p ∷ ps) h = short_drop n ps h.1

pub below_more : (n count : ℕ) (group : List (List ℕ)) → fecs_below (n + 1) count group ≡ fecs_below n count group ++ fec_for count n group ∷ []
below_more n count group = rw add-one refl

fecs_same : (m n protection : ℕ) (ps : List (List ℕ)) → length ps ≤ m → length ps ≤ n → fecs_in m protection ps ≡ fecs_in n protection ps
unfolding fecs_in
fecs_same zero zero protection ps h h' = refl
fecs_same zero (suc n) protection [] h h' = refl
fecs_same zero (suc n) protection (p ∷ ps) h h' = absurd (omega (arith, h))
fecs_same (suc m) zero protection [] h h' = refl
fecs_same (suc m) zero protection (p ∷ ps) h h' = absurd (omega (arith, h'))
fecs_same (suc m) (suc n) protection [] h h' = refl
fecs_same (suc m) (suc n) protection (p ∷ ps) h h' =
    let size : ℕ = group_size (p ∷ ps) in
    let less : length (drop size (p ∷ ps)) ≤ length ps = omega (arith, length-drop size (p ∷ ps), group_ge (number_of p) 1 ps) in
    ap (λ (fs : List Fec). group_fecs protection (take size (p ∷ ps)) ++ fs) (fecs_same m n protection (drop size (p ∷ ps)) (omega (arith, h, less)) (omega (arith, h', less)))

-- one more group
pub fecs_more : (protection : ℕ) (ps : List (List ℕ)) → 0 < length ps → fecs protection ps ≡ group_fecs protection (take (group_size ps) ps) ++ fecs protection (drop (group_size ps) ps)
unfolding fecs_in
fecs_more protection [] h = absurd (omega (arith, h))
fecs_more protection (p ∷ ps) h =
    let size : ℕ = group_size (p ∷ ps) in
    let less : length (drop size (p ∷ ps)) ≤ length ps = omega (arith, length-drop size (p ∷ ps), group_ge (number_of p) 1 ps) in
    ap (λ (fs : List Fec). group_fecs protection (take size (p ∷ ps)) ++ fs) (fecs_same (length ps) (length (drop size (p ∷ ps))) protection (drop size (p ∷ ps)) less (omega arith))

pub fecs_none : (protection : ℕ) → fecs protection [] ≡ []
unfolding fecs_in
fecs_none protection = refl
