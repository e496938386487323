-- The library's own packetizers with picture ids send in order.
use Rattle.std.proofs.Common.{inl, inr, ◌≡◌, ◌∙◌, sym, refl, ap, subst, zero, suc, ℕ, ◌+◌, ◌-◌, ◌*◌, ◌%◌, ◌^◌, ◌<◌, ◌≤◌, eqb, ltb, Bool, true, false, List, [], ◌∷◌, ◌++◌, length, get_or, Option, Some, None, arith}
use Rattle.std.specs.Prelude.{◌⊎◌, if◌then◌else◌, Result, Ok, Err}
use Rattle.std.proofs.lemmas.Bool.{cases_lt, eq-eqb, eqb-true, le-ltb, lt-ltb, ltb-false, ltb-true, ne_eqb}
use Rattle.std.proofs.lemmas.Option.{same_Some}
use Rattle.codec_payload_base.specs.Described.{described}
use Rattle.codec_payload_base.specs.declared.error.PacketError.{PacketError}
use Rattle.codec_payload_base.specs.PictureIds.{FitsWidth, id_bytes, id_value, shortest_id, take_id}
use Rattle.codec_payload_base.specs.declared.picture_id.PictureId.{PictureId}
use Rattle.codec_payload_base.specs.declared.picture_id.PictureId.TheVariants.{Long, Short}
use Rattle.codec_payload_base.proofs.PictureIdLemmas.{takes_spelled}
use Rattle.codec_payload_edges.specs.Edges.{edge_with, ids_of, vp8_edge, vp9_edge, width_of}
use Rattle.codec_payload_edges.specs.OwnSenders.{Answer, IsInOrder, group_at, own_sender, payload_at, sizes_of, start_of, stored_at}
use Rattle.codec_payload_edges.specs.Senders.{IsOf, Sender, SendsInOrder, Stored}
use Rattle.codec_payload_edges.specs.declared.edge.Edge.{Edge}
use Rattle.codec_payload_edges.specs.declared.edge.IdWidth.{IdWidth}

-- ---- groups

abbrev pub AllSome : List ℕ → Type 0
AllSome [] = Unit {0}
AllSome (size ∷ sizes) = (0 < size) × AllSome sizes

-- the place in its group, or behind the first group
group_in : (place size : ℕ) (sizes : List ℕ) (i : ℕ) → place < size → group_at place (size ∷ sizes) i ≡ Some i
group_in place size sizes i below = rw (lt-ltb place size below) refl

group_behind : (place size : ℕ) (sizes : List ℕ) (i : ℕ) → size ≤ place → group_at place (size ∷ sizes) i ≡ group_at (place - size) sizes (suc i)
group_behind place size sizes i above = rw (le-ltb place size above) refl

-- no group is below the first one
pub group_least : (place : ℕ) (sizes : List ℕ) (i k : ℕ) → group_at place sizes i ≡ Some k → i ≤ k
group_least place [] i k is = absurd (cc)
group_least place (size ∷ sizes) i k is = by (λ e. group_least (place - size) sizes (suc i) k e) (cases_lt place size)
  where
    by : (group_at (place - size) sizes (suc i) ≡ Some k → suc i ≤ k) → (place < size) ⊎ (size ≤ place) → i ≤ k
    by rest (inl below) = let same = same_Some i k (sym (group_in place size sizes i below) ∙ is) in omega (arith, same)
    by rest (inr above) = omega (arith, rest (sym (group_behind place size sizes i above) ∙ is))

-- groups rise with places
pub group_order : (m n : ℕ) (sizes : List ℕ) (i a b : ℕ) → m < n → group_at m sizes i ≡ Some a → group_at n sizes i ≡ Some b → a ≤ b
group_order m n [] i a b up is_m is_n = absurd (cc)
group_order m n (size ∷ sizes) i a b up is_m is_n = by (λ low e f. group_order (m - size) (n - size) sizes (suc i) a b low e f) (cases_lt m size)
  where
    by : (m - size < n - size → group_at (m - size) sizes (suc i) ≡ Some a → group_at (n - size) sizes (suc i) ≡ Some b → a ≤ b) → (m < size) ⊎ (size ≤ m) → a ≤ b
    by rest (inl below) = let same = same_Some i a (sym (group_in m size sizes i below) ∙ is_m) in omega (arith, same, group_least n (size ∷ sizes) i b is_n)
    by rest (inr above) =
        rest (omega (arith, up, above)) (sym (group_behind m size sizes i above) ∙ is_m) (sym (group_behind n size sizes i (omega (arith, up, above))) ∙ is_n)

-- each group up to one that has a place has one
pub group_each : (n : ℕ) (sizes : List ℕ) (i j k : ℕ) → AllSome sizes → group_at n sizes i ≡ Some k → i ≤ j → j ≤ k → (q : ℕ) × (group_at q sizes i ≡ Some j)
group_each n [] i j k some is from to = absurd (cc)
group_each n (size ∷ sizes) i j k some is from to = by (λ e later. group_each (n - size) sizes (suc i) j k some.1 e later to) (cases_lt i j)
  where
    behind : (q : ℕ) × (group_at q sizes (suc i) ≡ Some j) → (q : ℕ) × (group_at q (size ∷ sizes) i ≡ Some j)
    behind rest =
        let back : size + rest.0 - size ≡ rest.0 = omega arith in
        (size + rest.0, group_behind (size + rest.0) size sizes i (omega arith) ∙ (ap (λ (q : ℕ). group_at q sizes (suc i)) back ∙ rest.1))

    by_place : (group_at (n - size) sizes (suc i) ≡ Some k → suc i ≤ j → (q : ℕ) × (group_at q sizes (suc i) ≡ Some j)) → i < j → (n < size) ⊎ (size ≤ n)
        → (q : ℕ) × (group_at q (size ∷ sizes) i ≡ Some j)
    by_place rest later (inl below) = absurd (let same = same_Some i k (sym (group_in n size sizes i below) ∙ is) in omega (arith, same, later, to))
    by_place rest later (inr above) = behind (rest (sym (group_behind n size sizes i above) ∙ is) (omega (arith, later)))

    by : (group_at (n - size) sizes (suc i) ≡ Some k → suc i ≤ j → (q : ℕ) × (group_at q sizes (suc i) ≡ Some j)) → (i < j) ⊎ (j ≤ i)
        → (q : ℕ) × (group_at q (size ∷ sizes) i ≡ Some j)
    by rest (inl later) = by_place rest later (cases_lt n size)
    by rest (inr same) = (0, group_in 0 size sizes i some.0 ∙ ap (λ (m : ℕ). Some m) (omega (arith, from, same)))

-- the places of a group
pub group_is : (sizes : List ℕ) (i k j : ℕ) → j < get_or sizes k 0 → group_at (start_of sizes k + j) sizes i ≡ Some (i + k)
group_is [] i k j below = absurd (omega (arith, below))
group_is (size ∷ sizes) i zero j below =
    let none : 0 + j ≡ j = omega arith in
    ap (λ (q : ℕ). group_at q (size ∷ sizes) i) none ∙ (group_in j size sizes i below ∙ ap (λ (m : ℕ). Some m) (omega arith))
group_is (size ∷ sizes) i (suc k) j below =
    let back : size + start_of sizes k + j - size ≡ start_of sizes k + j = omega arith in
    let next : suc i + k ≡ i + suc k = omega arith in
    group_behind (size + start_of sizes k + j) size sizes i (omega arith)
    ∙ (ap (λ (q : ℕ). group_at q sizes (suc i)) back ∙ (group_is sizes (suc i) k j below ∙ ap (λ (m : ℕ). Some m) next))

pub record IsWithin (sizes : List ℕ) (k place : ℕ) : Type 0 where
  pub from : start_of sizes k ≤ place
  pub to : place < start_of sizes k + get_or sizes k 0

pub group_within : (place : ℕ) (sizes : List ℕ) (i k : ℕ) → group_at place sizes i ≡ Some (i + k) → IsWithin sizes k place
group_within place [] i k is = absurd (cc)
group_within place (size ∷ sizes) i zero is = by (cases_lt place size)
  where
    by : (place < size) ⊎ (size ≤ place) → IsWithin (size ∷ sizes) 0 place
    by (inl below) = record { from = omega arith; to = omega (arith, below) }
    by (inr above) = absurd (omega (arith, group_least (place - size) sizes (suc i) (i + 0) (sym (group_behind place size sizes i above) ∙ is)))
group_within place (size ∷ sizes) i (suc m) is = by (λ e. group_within (place - size) sizes (suc i) m e) (cases_lt place size)
  where
    by : (group_at (place - size) sizes (suc i) ≡ Some (suc i + m) → IsWithin sizes m (place - size)) → (place < size) ⊎ (size ≤ place) → IsWithin (size ∷ sizes) (suc m) place
    by rest (inl below) = absurd (let same = same_Some i (i + suc m) (sym (group_in place size sizes i below) ∙ is) in omega (arith, same))
    by rest (inr above) =
        let next : i + suc m ≡ suc i + m = omega arith in
        let inside = rest (sym (group_behind place size sizes i above) ∙ (is ∙ ap (λ (x : ℕ). Some x) next)) in
        record { from = omega (arith, above, inside.from); to = omega (arith, above, inside.to) }

-- each place before one that has a group has one
pub group_some : (n k : ℕ) (sizes : List ℕ) (i b : ℕ) → n < k → group_at k sizes i ≡ Some b → (a : ℕ) × (group_at n sizes i ≡ Some a)
group_some n k [] i b up is = absurd (cc)
group_some n k (size ∷ sizes) i b up is = by (λ low e. group_some (n - size) (k - size) sizes (suc i) b low e) (cases_lt n size)
  where
    by : (n - size < k - size → group_at (k - size) sizes (suc i) ≡ Some b → (a : ℕ) × (group_at (n - size) sizes (suc i) ≡ Some a)) → (n < size) ⊎ (size ≤ n)
        → (a : ℕ) × (group_at n (size ∷ sizes) i ≡ Some a)
    by rest (inl below) = (i, group_in n size sizes i below)
    by rest (inr above) =
        let found = rest (omega (arith, up, above)) (sym (group_behind k size sizes i (omega (arith, up, above))) ∙ is) in
        (found.0, group_behind n size sizes i above ∙ found.1)
