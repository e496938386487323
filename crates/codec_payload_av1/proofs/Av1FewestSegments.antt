-- A list of segments, each as long as the bound lets it be, is a shortest one.
use Rattle.std.proofs.Common.{◌≡◌, ℕ, zero, suc, ◌+◌, ◌<◌, ◌≤◌, Bool, true, false, List, [], ◌∷◌, ◌++◌, length, take, refl, sym, ap, ◌∙◌, append_assoc, ◌⊎◌, inl, inr, arith}
use Rattle.std.specs.List.{AllByRecursion}
use Rattle.codec_payload_av1.specs.Av1Size.{size_with_lengths, size_last_bare, packet_size}
use Rattle.std.proofs.lemmas.List.{length-append}
use Rattle.std.proofs.lemmas.Bool.{cases_lt, lt-ltb, le-ltb}

abbrev pub Rises : (ℕ → ℕ) → Type 0
Rises cost = (a b : ℕ) → a ≤ b → cost a ≤ cost b

-- some of the elements, in order, none longer
abbrev pub Within : List ℕ → List ℕ → Type 0
Within [] fs = Unit {0}
Within (e ∷ es) [] = ⊥
Within (e ∷ es) (f ∷ fs) = ((e ≤ f) × Within es fs) ⊎ Within (e ∷ es) fs

Within-skip : (es : List ℕ) (f : ℕ) (fs : List ℕ) → Within es fs → Within es (f ∷ fs)
Within-skip [] f fs w = tt
Within-skip (e ∷ es) f fs w = inr w

lengths_rise : (cost : ℕ → ℕ) → Rises cost → (es fs : List ℕ) → Within es fs → size_with_lengths cost es ≤ size_with_lengths cost fs
lengths_rise cost rises [] fs w = omega arith
lengths_rise cost rises (e ∷ es) [] w = absurd w
lengths_rise cost rises (e ∷ es) (f ∷ fs) w =
    elim w [
      | inl p ↦ omega (arith, rises e f p.0, lengths_rise cost rises es fs p.1, p.0)
      | inr q ↦ omega (arith, lengths_rise cost rises (e ∷ es) fs q)
    ]

length_rises : (es fs : List ℕ) → Within es fs → length es ≤ length fs
length_rises [] fs w = omega arith
length_rises (e ∷ es) [] w = absurd w
length_rises (e ∷ es) (f ∷ fs) w =
    elim w [
      | inl p ↦ omega (arith, length_rises es fs p.1)
      | inr q ↦ omega (arith, length_rises (e ∷ es) fs q)
    ]

pub bare-le-lengths : (cost : ℕ → ℕ) (es : List ℕ) → size_last_bare cost es ≤ size_with_lengths cost es
bare-le-lengths cost [] = omega arith
bare-le-lengths cost (e ∷ []) = omega arith
bare-le-lengths cost (e ∷ f ∷ es) = omega (arith, bare-le-lengths cost (f ∷ es))

bare_rises : (cost : ℕ → ℕ) → Rises cost → (es fs : List ℕ) → Within es fs → size_last_bare cost es ≤ size_last_bare cost fs
bare_rises cost rises [] fs w = omega arith
bare_rises cost rises (e ∷ es) [] w = absurd w
bare_rises cost rises (e ∷ []) (f ∷ []) w = elim w [ inl p ↦ p.0 | inr q ↦ absurd q ]
bare_rises cost rises (e ∷ []) (f ∷ g ∷ fs) w =
    elim w [
      | inl p ↦ omega (arith, p.0)
      | inr q ↦ omega (arith, bare_rises cost rises (e ∷ []) (g ∷ fs) q)
    ]
bare_rises cost rises (e ∷ d ∷ es) (f ∷ []) w = elim w [ inl p ↦ absurd p.1 | inr q ↦ absurd q ]
bare_rises cost rises (e ∷ d ∷ es) (f ∷ g ∷ fs) w =
    elim w [
      | inl p ↦ omega (arith, p.0, rises e f p.0, bare_rises cost rises (d ∷ es) (g ∷ fs) p.1)
      | inr q ↦ omega (arith, bare_rises cost rises (e ∷ d ∷ es) (g ∷ fs) q)
    ]

pub size_rises : (cost : ℕ → ℕ) → Rises cost → (es fs : List ℕ) → Within es fs → packet_size cost es ≤ packet_size cost fs
size_rises cost rises es fs w =
    let n = length_rises es fs w in
    elim (cases_lt 3 (length es)) [
      | inl more ↦ rw (lt-ltb 3 (length es) more, lt-ltb 3 (length fs) (omega arith)) (omega (arith, lengths_rise cost rises es fs w))
      | inr few ↦ elim (cases_lt 3 (length fs)) [
        | inl more ↦ rw (le-ltb 3 (length es) few, lt-ltb 3 (length fs) more) (omega (arith, bare-le-lengths cost es, lengths_rise cost rises es fs w))
        | inr some ↦ rw (le-ltb 3 (length es) few, le-ltb 3 (length fs) some) (omega (arith, bare_rises cost rises es fs w))
      ]
    ]

-- ---- segments: a bit for each byte, true if a string begins there

abbrev pub runs_from : ℕ → List Bool → List ℕ
runs_from k [] = k ∷ []
runs_from k (true ∷ bs) = k ∷ runs_from 1 bs
runs_from k (false ∷ bs) = runs_from (suc k) bs

-- the lengths of the elements of a segment, whose first byte begins one in any case
abbrev pub runs : List Bool → List ℕ
runs [] = []
runs (b ∷ bs) = runs_from 1 bs

runs_head : (j k : ℕ) → j ≤ k → (cs : List Bool) → Within (j ∷ []) (runs_from k cs)
runs_head j k le [] = inl (le, tt)
runs_head j k le (true ∷ cs) = inl (le, tt)
runs_head j k le (false ∷ cs) = runs_head j (suc k) (omega arith) cs

runs_front : (j k : ℕ) → j ≤ k → (bs cs : List Bool) → Within (runs_from j bs) (runs_from k (bs ++ cs))
runs_front j k le [] cs = runs_head j k le cs
runs_front j k le (true ∷ bs) cs = inl (le, runs_front 1 1 (omega arith) bs cs)
runs_front j k le (false ∷ bs) cs = runs_front (suc j) (suc k) (omega arith) bs cs

runs_later : (k : ℕ) → 1 ≤ k → (ds : List Bool) (b : Bool) (bs cs : List Bool) → Within (runs_from 1 bs) (runs_from k (ds ++ b ∷ (bs ++ cs)))
runs_later k le [] true bs cs = Within-skip (runs_from 1 bs) k (runs_from 1 (bs ++ cs)) (runs_front 1 1 (omega arith) bs cs)
runs_later k le [] false bs cs = runs_front 1 (suc k) (omega arith) bs cs
runs_later k le (true ∷ ds) b bs cs = Within-skip (runs_from 1 bs) k (runs_from 1 (ds ++ b ∷ (bs ++ cs))) (runs_later 1 (omega arith) ds b bs cs)
runs_later k le (false ∷ ds) b bs cs = runs_later (suc k) (omega arith) ds b bs cs

-- a part of a segment has some of its elements, none longer
pub runs_inside : (ds bs cs : List Bool) → Within (runs bs) (runs (ds ++ (bs ++ cs)))
runs_inside ds [] cs = tt
runs_inside [] (b ∷ bs) cs = runs_front 1 1 (omega arith) bs cs
runs_inside (d ∷ ds) (b ∷ bs) cs = runs_later 1 (omega arith) ds b bs cs

-- ---- the theorem

abbrev pub join : List (List Bool) → List Bool
join [] = []
join (x ∷ xs) = x ++ join xs

-- each segment but the last is too long with the byte that follows it
abbrev pub FullSegments : (ℕ → ℕ) → ℕ → List (List Bool) → Type 0
FullSegments cost mtu [] = Unit {0}
FullSegments cost mtu (x ∷ []) = Unit {0}
FullSegments cost mtu (x ∷ y ∷ ys) = ((b : Bool) (t : List Bool) → y ≡ b ∷ t → mtu < packet_size cost (runs (x ++ b ∷ []))) × FullSegments cost mtu (y ∷ ys)

-- of two partitions of one list, the first part of one reaches into the other
abbrev Reaches : List Bool → List Bool → List Bool → List Bool → Type 0
Reaches a b c d = ((t : List Bool) × (a ≡ c ++ t) × (d ≡ t ++ b)) ⊎ ((x : Bool) × (t : List Bool) × (c ≡ a ++ x ∷ t) × (b ≡ x ∷ (t ++ d)))

tail_same : (x y : Bool) (a b : List Bool) → x ∷ a ≡ y ∷ b → (x ≡ y) × (a ≡ b)
tail_same x y a b e = (cc, cc)

compare_parts : (a b c d : List Bool) → a ++ b ≡ c ++ d → Reaches a b c d
compare_parts a b [] d e = inl (a, refl, sym e)
compare_parts [] b (x ∷ c) d e = inr (x, c, refl, e)
compare_parts (y ∷ a) b (x ∷ c) d e =
    let s = tail_same y x (a ++ b) (c ++ d) e in
    elim (compare_parts a b c d s.1) [
      | inl p ↦ inl (p.0, cc (s.0, p.1), p.2)
      | inr q ↦ inr (q.0, q.1, cc (s.0, q.2), q.3)
    ]

pub fewest_segments : (cost : ℕ → ℕ) → Rises cost → (mtu : ℕ) (xs os : List (List Bool)) (ds : List Bool)
    → AllByRecursion (λ x. 0 < length x) xs → FullSegments cost mtu xs → AllByRecursion (λ o. packet_size cost (runs o) ≤ mtu) os
    → ds ++ join xs ≡ join os → length xs ≤ length os
fewest_segments cost rises mtu [] os ds ne full within e = omega arith
fewest_segments cost rises mtu (x ∷ xs) [] ds ne full within e =
    absurd (omega (arith, ne.0, length-append ds (x ++ join xs), length-append x (join xs), ap length e))
fewest_segments cost rises mtu (x ∷ []) (o ∷ os) ds ne full within e = omega arith
fewest_segments cost rises mtu (x ∷ [] ∷ xs) (o ∷ os) ds ne full within e = absurd (omega (arith, ne.1.0))
fewest_segments cost rises mtu (x ∷ (b ∷ y) ∷ xs) (o ∷ os) ds ne full within e =
    elim (compare_parts (ds ++ x) (join ((b ∷ y) ∷ xs)) o (join os) (append_assoc ds x (join ((b ∷ y) ∷ xs)) ∙ e)) [
      | inl p ↦ omega (arith, fewest_segments cost rises mtu ((b ∷ y) ∷ xs) os p.0 ne.1 full.1 within.1 (sym p.2))
      | inr q ↦
          let s = tail_same b q.0 (y ++ join xs) (q.1 ++ join os) q.3 in
          let o-is : o ≡ ds ++ ((x ++ b ∷ []) ++ q.1) = q.2 ∙ rw (← s.0) (simp append_assoc) in
          let less : packet_size cost (runs (x ++ b ∷ [])) ≤ packet_size cost (runs o) = rw o-is
          (size_rises cost rises (runs (x ++ b ∷ [])) (runs (ds ++ ((x ++ b ∷ []) ++ q.1))) (runs_inside ds (x ++ b ∷ []) q.1)) in
          absurd (omega (arith, less, within.0, full.0 b y refl))
    ]

join_front : (k : ℕ) (xs : List (List Bool)) → length (join (take k xs)) ≤ length (join xs)
join_front zero xs = omega arith
join_front (suc k) [] = omega arith
join_front (suc k) (x ∷ xs) = omega (arith, join_front k xs, length-append x (join (take k xs)), length-append x (join xs))

-- and each of its segments ends no earlier than that at its place in the other list
pub furthest_segments : (cost : ℕ → ℕ) → Rises cost → (mtu : ℕ) (k : ℕ) (xs os : List (List Bool)) (ds : List Bool)
    → AllByRecursion (λ x. 0 < length x) xs → FullSegments cost mtu xs → AllByRecursion (λ o. packet_size cost (runs o) ≤ mtu) os
    → ds ++ join xs ≡ join os → length (join (take k os)) ≤ length ds + length (join (take k xs))
furthest_segments cost rises mtu zero xs os ds ne full within e = omega arith
furthest_segments cost rises mtu (suc k) xs [] ds ne full within e = omega arith
furthest_segments cost rises mtu (suc k) [] (o ∷ os) ds ne full within e =
    omega (arith, join_front (suc k) (o ∷ os), ap length e, length-append ds [])
furthest_segments cost rises mtu (suc k) (x ∷ []) (o ∷ os) ds ne full within e =
    omega (arith, join_front (suc k) (o ∷ os), ap length e, length-append ds (x ++ []), length-append x [], length-append x (join (take k [])))
furthest_segments cost rises mtu (suc k) (x ∷ [] ∷ xs) (o ∷ os) ds ne full within e = absurd (omega (arith, ne.1.0))
furthest_segments cost rises mtu (suc k) (x ∷ (b ∷ y) ∷ xs) (o ∷ os) ds ne full within e =
    elim (compare_parts (ds ++ x) (join ((b ∷ y) ∷ xs)) o (join os) (append_assoc ds x (join ((b ∷ y) ∷ xs)) ∙ e)) [
      | inl p ↦
          let later = furthest_segments cost rises mtu k ((b ∷ y) ∷ xs) os p.0 ne.1 full.1 within.1 (sym p.2) in
          omega (arith, later, ap length p.1, length-append ds x, length-append o p.0, length-append o (join (take k os)), length-append x (join (take k ((b ∷ y) ∷ xs))))
      | inr q ↦
          let s = tail_same b q.0 (y ++ join xs) (q.1 ++ join os) q.3 in
          let o-is : o ≡ ds ++ ((x ++ b ∷ []) ++ q.1) = q.2 ∙ rw (← s.0) (simp append_assoc) in
          let less : packet_size cost (runs (x ++ b ∷ [])) ≤ packet_size cost (runs o) = rw o-is
          (size_rises cost rises (runs (x ++ b ∷ [])) (runs (ds ++ ((x ++ b ∷ []) ++ q.1))) (runs_inside ds (x ++ b ∷ []) q.1)) in
          absurd (omega (arith, less, within.0, full.0 b y refl))
    ]
