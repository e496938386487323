-- Items in tiers.
use Rattle.std.proofs.Common.{◌≡◌, ℕ, zero, suc, ◌<◌, ◌≤◌, ◌+◌, ◌-◌, ◌*◌, ◌++◌, [], ◌∷◌, List, length, get_or, refl, ap, sym, ◌∙◌, arith, slice_set, append_assoc, subst, length-append, inl, inr, Option, Some, None}
use Rattle.std.proofs.lemmas.Bool.{cases_lt}
use Rattle.std.specs.List.{AllWithin, insert}
use Rattle.std.specs.List.Sorted.{IsNonDecreasingBy, IsPartitionPoint}
use Rattle.std.specs.VecDeque.{deque_len, deque_capacity}
use Rattle.std.specs.Global.{Vec, Global}
use Rattle.std.specs.Vec.{vec_len, vec_capacity}
use Rattle.std.specs.declared.collections.VecDeque.{VecDeque}
use Rattle.std.proofs.lemmas.List.{get_or_append_left, get_or-append_right, set-append_left, set-append_right, nil_from_length}
use Rattle.std.proofs.lemmas.List.Edits.{insert-append_left, insert-append_right, length-insert}
use Rattle.codec_payload_queue.specs.Tiers.{in_tiers, with_carried, AreTiers, IsSpare, room_above, room_at_end}

-- a tier is as long as the list of its items
pub tier_length : {X : Type 0} (t : VecDeque X Global) → deque_len t ≡ length t.items
tier_length t = t.ok.0

-- the facts about the tier at a place
pub record IsTierAt {X : Type 0} (least k : ℕ) (t : VecDeque X Global) (ts : List (VecDeque X Global)) : Type 0 where
  pub memory : 1024 ≤ deque_capacity t
  pub some : least ≤ deque_len t
  pub few : deque_len t ≤ 1024
  pub full : k + 1 < length ts → deque_len t ≡ 1024

pub tier_at : {X : Type 0} (least k : ℕ) (t : VecDeque X Global) (ts : List (VecDeque X Global)) → AreTiers least ts → k < length ts → t ≡ get_or ts k t → IsTierAt least k t ts
tier_at least k t [] are l is = absurd (omega arith)
tier_at least zero t (h ∷ ts) are l is =
    let at_head : IsTierAt least zero h (h ∷ ts) = record { memory = are.0.memory; some = are.0.some; few = are.0.few; full = λ more. are.0.full (omega (arith, more)) } in
    let P : VecDeque _ Global → Type 0 = λ v. IsTierAt least zero v (h ∷ ts) in
    subst P (sym is) at_head
tier_at least (suc k) t (h ∷ ts) are l is =
    let rest = tier_at least k t ts are.1 (omega (arith, l)) is in
    record { memory = rest.memory; some = rest.some; few = rest.few; full = λ more. rest.full (omega (arith, more)) }

-- how many items there are up to the tier at a place
pub length_up_to : {X : Type 0} (least k : ℕ) (t : VecDeque X Global) (ts : List (VecDeque X Global)) → AreTiers least ts → k < length ts → t ≡ get_or ts k t → 1024 * k + deque_len t ≤ length (in_tiers ts)
length_up_to least k t [] are l is = absurd (omega arith)
length_up_to least zero t (h ∷ ts) are l is = omega (arith, ap deque_len is, tier_length h, length-append h.items (in_tiers ts))
length_up_to least (suc k) t (h ∷ ts) are l is =
    omega (arith, length_up_to least k t ts are.1 (omega (arith, l)) is, are.0.full (omega (arith, l)), tier_length h, length-append h.items (in_tiers ts))

-- how many items there are, by the last tier
pub length_by_last : {X : Type 0} (least k : ℕ) (t : VecDeque X Global) (ts : List (VecDeque X Global)) → AreTiers least ts → k + 1 ≡ length ts → t ≡ get_or ts k t → 1024 * k + deque_len t ≡ length (in_tiers ts)
length_by_last least k t [] are e is = absurd (omega arith)
length_by_last least zero t (h ∷ []) are e is = omega (arith, ap deque_len is, tier_length h, length-append h.items [])
length_by_last least zero t (h ∷ u ∷ ts) are e is = absurd (omega (arith, e))
length_by_last least (suc k) t (h ∷ ts) are e is =
    omega (arith, length_by_last least k t ts are.1 (omega (arith, e)) is, are.0.full (omega (arith, e)), tier_length h, length-append h.items (in_tiers ts))

-- bounds on how many items there are
pub length_most : {X : Type 0} (least : ℕ) (ts : List (VecDeque X Global)) → AreTiers least ts → length (in_tiers ts) ≤ 1024 * length ts
length_most least [] are = omega arith
length_most least (h ∷ ts) are = omega (arith, length_most least ts are.1, are.0.few, tier_length h, length-append h.items (in_tiers ts))

pub length_least : {X : Type 0} (least : ℕ) (ts : List (VecDeque X Global)) → AreTiers least ts → 0 < length ts → 1024 * length ts + least ≤ length (in_tiers ts) + 1024
length_least least [] are l = absurd (omega arith)
length_least least (h ∷ []) are l = omega (arith, are.0.some, tier_length h, length-append h.items [])
length_least least (h ∷ u ∷ ts) are l =
    omega (arith, length_least least (u ∷ ts) are.1 (omega arith), are.0.full (omega arith), tier_length h, length-append h.items (in_tiers (u ∷ ts)))

-- a place is in a tier
pub slot_at : {X : Type 0} (least k i : ℕ) (t : VecDeque X Global) (ts : List (VecDeque X Global)) → AreTiers least ts → k < length ts → t ≡ get_or ts k t → i < 1024 → 1024 * k + i < length (in_tiers ts) → i < deque_len t
slot_at least k i t ts are l is few w = elim (cases_lt (k + 1) (length ts)) [
  | inl more ↦ omega (arith, (tier_at least k t ts are l is).full more, few)
  | inr last ↦ omega (arith, length_by_last least k t ts are (omega (arith, l, last)) is, w)
]

-- the same for a place right behind the last item
pub slot_up_to : {X : Type 0} (least k i : ℕ) (t : VecDeque X Global) (ts : List (VecDeque X Global)) → AreTiers least ts → k < length ts → t ≡ get_or ts k t → i < 1024 → 1024 * k + i ≤ length (in_tiers ts) → i ≤ deque_len t
slot_up_to least k i t ts are l is few w = elim (cases_lt (k + 1) (length ts)) [
  | inl more ↦ omega (arith, (tier_at least k t ts are l is).full more, few)
  | inr last ↦ omega (arith, length_by_last least k t ts are (omega (arith, l, last)) is, w)
]

-- the item at a place of a tier
pub item_in_tier : {X : Type 0} (least k i : ℕ) (t : VecDeque X Global) (ts : List (VecDeque X Global)) (d : X) → AreTiers least ts → k < length ts → t ≡ get_or ts k t → i < deque_len t
    → get_or (in_tiers ts) (1024 * k + i) d ≡ get_or t.items i d
item_in_tier least k i t [] d are l is w = absurd (omega arith)
item_in_tier least zero i t (h ∷ ts) d are l is w =
    let same : h ≡ t = sym is in
    ap (λ j. get_or (h.items ++ in_tiers ts) j d) (let e : 1024 * zero + i ≡ i = omega arith in e)
    ∙ get_or_append_left h.items (in_tiers ts) d i (omega (arith, w, ap deque_len same, tier_length h))
    ∙ ap (λ (v : VecDeque _ Global). get_or v.items i d) same
item_in_tier least (suc k) i t (h ∷ ts) d are l is w =
    let long : length h.items ≡ 1024 = omega (arith, are.0.full (omega (arith, l)), tier_length h) in
    get_or-append_right h.items (in_tiers ts) 1024 (1024 * suc k + i) d long (omega arith)
    ∙ ap (λ j. get_or (in_tiers ts) j d) (let e : 1024 * suc k + i - 1024 ≡ 1024 * k + i = omega arith in e)
    ∙ item_in_tier least k i t ts d are.1 (omega (arith, l)) is w

-- another item at a place of a tier
pub set_in_tier : {X : Type 0} (least k i : ℕ) (t u : VecDeque X Global) (ts : List (VecDeque X Global)) (x : X) → AreTiers least ts → k < length ts → t ≡ get_or ts k t → i < deque_len t
    → u.items ≡ slice_set t.items i x → in_tiers (slice_set ts k u) ≡ slice_set (in_tiers ts) (1024 * k + i) x
set_in_tier least k i t u [] x are l is w new = absurd (omega arith)
set_in_tier least zero i t u (h ∷ ts) x are l is w new =
    let same : t ≡ h = is in
    ap (λ (ys : List _). ys ++ in_tiers ts) (new ∙ ap (λ (v : VecDeque _ Global). slice_set v.items i x) same)
    ∙ sym (set-append_left h.items (in_tiers ts) i x (omega (arith, w, ap deque_len same, tier_length h)))
    ∙ ap (λ j. slice_set (h.items ++ in_tiers ts) j x) (let e : i ≡ 1024 * zero + i = omega arith in e)
set_in_tier least (suc k) i t u (h ∷ ts) x are l is w new =
    let long : length h.items ≡ 1024 = omega (arith, are.0.full (omega (arith, l)), tier_length h) in
    ap (λ (ys : List _). h.items ++ ys) (set_in_tier least k i t u ts x are.1 (omega (arith, l)) is w new)
    ∙ ap (λ j. h.items ++ slice_set (in_tiers ts) j x) (let e : 1024 * k + i ≡ 1024 * suc k + i - 1024 = omega arith in e)
    ∙ sym (set-append_right h.items (in_tiers ts) 1024 (1024 * suc k + i) x long (omega arith))

-- one more item at a place of a tier
pub insert_in_tier : {X : Type 0} (least k i : ℕ) (t u : VecDeque X Global) (ts : List (VecDeque X Global)) (x : X) → AreTiers least ts → k < length ts → t ≡ get_or ts k t → i ≤ deque_len t
    → u.items ≡ insert t.items i x → in_tiers (slice_set ts k u) ≡ insert (in_tiers ts) (1024 * k + i) x
insert_in_tier least k i t u [] x are l is w new = absurd (omega arith)
insert_in_tier least zero i t u (h ∷ ts) x are l is w new =
    let same : t ≡ h = is in
    ap (λ (ys : List _). ys ++ in_tiers ts) (new ∙ ap (λ (v : VecDeque _ Global). insert v.items i x) same)
    ∙ sym (insert-append_left h.items (in_tiers ts) i x (omega (arith, w, ap deque_len same, tier_length h)))
    ∙ ap (λ j. insert (h.items ++ in_tiers ts) j x) (let e : i ≡ 1024 * zero + i = omega arith in e)
insert_in_tier least (suc k) i t u (h ∷ ts) x are l is w new =
    let long : length h.items ≡ 1024 = omega (arith, are.0.full (omega (arith, l)), tier_length h) in
    ap (λ (ys : List _). h.items ++ ys) (insert_in_tier least k i t u ts x are.1 (omega (arith, l)) is w new)
    ∙ ap (λ j. h.items ++ insert (in_tiers ts) j x) (let e : 1024 * k + i ≡ 1024 * suc k + i - 1024 = omega arith in e)
    ∙ sym (insert-append_right h.items (in_tiers ts) 1024 (1024 * suc k + i) x long (omega arith))

-- an item in front of all
pub carried_first : {X : Type 0} (x : X) (ts : List (VecDeque X Global)) → with_carried 0 x ts ≡ x ∷ in_tiers ts
carried_first x [] = refl
carried_first x (t ∷ ts) = refl

-- one more item at a place of a tier, whose last item is then carried to the next one
pub carry_from_tier : {X : Type 0} (least k i : ℕ) (t u : VecDeque X Global) (ts : List (VecDeque X Global)) (x y : X) → AreTiers least ts → k < length ts → t ≡ get_or ts k t → i ≤ deque_len t
    → u.items ++ y ∷ [] ≡ insert t.items i x → with_carried (suc k) y (slice_set ts k u) ≡ insert (in_tiers ts) (1024 * k + i) x
carry_from_tier least k i t u [] x y are l is w new = absurd (omega arith)
carry_from_tier least zero i t u (h ∷ ts) x y are l is w new =
    let same : t ≡ h = is in
    ap (λ (zs : List _). u.items ++ zs) (carried_first y ts)
    ∙ sym (append_assoc u.items (y ∷ []) (in_tiers ts))
    ∙ ap (λ (ys : List _). ys ++ in_tiers ts) (new ∙ ap (λ (v : VecDeque _ Global). insert v.items i x) same)
    ∙ sym (insert-append_left h.items (in_tiers ts) i x (omega (arith, w, ap deque_len same, tier_length h)))
    ∙ ap (λ j. insert (h.items ++ in_tiers ts) j x) (let e : i ≡ 1024 * zero + i = omega arith in e)
carry_from_tier least (suc k) i t u (h ∷ ts) x y are l is w new =
    let long : length h.items ≡ 1024 = omega (arith, are.0.full (omega (arith, l)), tier_length h) in
    ap (λ (ys : List _). h.items ++ ys) (carry_from_tier least k i t u ts x y are.1 (omega (arith, l)) is w new)
    ∙ ap (λ j. h.items ++ insert (in_tiers ts) j x) (let e : 1024 * k + i ≡ 1024 * suc k + i - 1024 = omega arith in e)
    ∙ sym (insert-append_right h.items (in_tiers ts) 1024 (1024 * suc k + i) x long (omega arith))

-- the carried item is put in front of a tier, whose last item is carried on
pub carried_on : {X : Type 0} (k : ℕ) (t u : VecDeque X Global) (ts : List (VecDeque X Global)) (x y : X) → k < length ts → t ≡ get_or ts k t
    → u.items ++ y ∷ [] ≡ x ∷ t.items → with_carried (suc k) y (slice_set ts k u) ≡ with_carried k x ts
carried_on k t u [] x y l is new = absurd (omega arith)
carried_on zero t u (h ∷ ts) x y l is new =
    ap (λ (zs : List _). u.items ++ zs) (carried_first y ts)
    ∙ sym (append_assoc u.items (y ∷ []) (in_tiers ts))
    ∙ ap (λ (zs : List _). zs ++ in_tiers ts) (new ∙ ap (λ (v : VecDeque _ Global). x ∷ v.items) is)
carried_on (suc k) t u (h ∷ ts) x y l is new = ap (λ (zs : List _). h.items ++ zs) (carried_on k t u ts x y (omega (arith, l)) is new)

-- the carried item is put in front of a tier with room
pub carried_in : {X : Type 0} (k : ℕ) (t u : VecDeque X Global) (ts : List (VecDeque X Global)) (x : X) → k < length ts → t ≡ get_or ts k t → u.items ≡ x ∷ t.items → in_tiers (slice_set ts k u) ≡ with_carried k x ts
carried_in k t u [] x l is new = absurd (omega arith)
carried_in zero t u (h ∷ ts) x l is new = ap (λ (zs : List _). zs ++ in_tiers ts) (new ∙ ap (λ (v : VecDeque _ Global). x ∷ v.items) is)
carried_in (suc k) t u (h ∷ ts) x l is new = ap (λ (zs : List _). h.items ++ zs) (carried_in k t u ts x (omega (arith, l)) is new)

length_after : {X : Type 0} (k : ℕ) (u : VecDeque X Global) (ts : List (VecDeque X Global)) → length (slice_set ts k u) ≡ length ts
length_after k u [] = refl
length_after zero u (h ∷ ts) = refl
length_after (suc k) u (h ∷ ts) = omega (arith, length_after k u ts)

-- another tier of the same length at a place
pub tiers_after : {X : Type 0} (least k : ℕ) (t u : VecDeque X Global) (ts : List (VecDeque X Global)) → AreTiers least ts → k < length ts → t ≡ get_or ts k t → deque_len u ≡ deque_len t → deque_capacity t ≤ deque_capacity u
    → AreTiers least (slice_set ts k u)
tiers_after least k t u [] are l is same memory = absurd (omega arith)
tiers_after least zero t u (h ∷ ts) are l is same memory =
    let long : deque_len u ≡ deque_len h = same ∙ ap deque_len is in
    let wide : deque_capacity h ≤ deque_capacity u = omega (arith, memory, ap deque_capacity is) in
    (record { memory = omega (arith, wide, are.0.memory); some = omega (arith, long, are.0.some); few = omega (arith, long, are.0.few); full = λ more. long ∙ are.0.full more }, are.1)
tiers_after least (suc k) t u (h ∷ ts) are l is same memory = (
  record { memory = are.0.memory; some = are.0.some; few = are.0.few; full = λ more. are.0.full (omega (arith, more, length_after k u ts)) },
  tiers_after least k t u ts are.1 (omega (arith, l)) is same memory,
)

pub size_after : {X : Type 0} (k : ℕ) (t u : VecDeque X Global) (ts : List (VecDeque X Global)) → k < length ts → t ≡ get_or ts k t → deque_len u ≡ deque_len t → length (in_tiers (slice_set ts k u)) ≡ length (in_tiers ts)
size_after k t u [] l is same = absurd (omega arith)
size_after zero t u (h ∷ ts) l is same = omega (arith, same, ap deque_len is, tier_length u, tier_length h, length-append u.items (in_tiers ts), length-append h.items (in_tiers ts))
size_after (suc k) t u (h ∷ ts) l is same =
    omega (arith, size_after k t u ts (omega (arith, l)) is same, length-append h.items (in_tiers ts), length-append h.items (in_tiers (slice_set ts k u)))

-- the last tier is no longer empty
pub last_after : {X : Type 0} (k : ℕ) (u : VecDeque X Global) (ts : List (VecDeque X Global)) → AreTiers 0 ts → k + 1 ≡ length ts → 1024 ≤ deque_capacity u → 1 ≤ deque_len u → deque_len u ≤ 1024
    → AreTiers 1 (slice_set ts k u)
last_after k u [] are e memory some few = absurd (omega arith)
last_after zero u (h ∷ []) are e memory some few = (record { memory = memory; some = some; few = few; full = λ more. absurd (omega (arith, more)) }, tt)
last_after zero u (h ∷ v ∷ ts) are e memory some few = absurd (omega (arith, e))
last_after (suc k) u (h ∷ ts) are e memory some few =
    let whole : deque_len h ≡ 1024 = are.0.full (omega (arith, e)) in
    (record { memory = are.0.memory; some = omega (arith, whole); few = are.0.few; full = λ more. whole }, last_after k u ts are.1 (omega (arith, e)) memory some few)

-- where the last tier may be empty
pub tiers_weaker : {X : Type 0} (ts : List (VecDeque X Global)) → AreTiers 1 ts → AreTiers 0 ts
tiers_weaker [] are = tt
tiers_weaker (t ∷ ts) are = (record { memory = are.0.memory; some = omega arith; few = are.0.few; full = are.0.full }, tiers_weaker ts are.1)

-- an empty tier behind full ones
pub tiers_with : {X : Type 0} (u : VecDeque X Global) (ts : List (VecDeque X Global)) → AreTiers 1 ts → length (in_tiers ts) ≡ 1024 * length ts → deque_len u ≡ 0 → 1024 ≤ deque_capacity u → AreTiers 0 (ts ++ u ∷ [])
tiers_with u [] are whole none memory = (record { memory = memory; some = omega arith; few = omega (arith, none); full = λ more. absurd (omega (arith, more)) }, tt)
tiers_with u (t ∷ ts) are whole none memory =
    let size : length (t.items ++ in_tiers ts) ≡ deque_len t + length (in_tiers ts) = omega (arith, tier_length t, length-append t.items (in_tiers ts)) in
    let rest : length (in_tiers ts) ≤ 1024 * length ts = length_most 1 ts are.1 in
    let long : deque_len t ≡ 1024 = omega (arith, whole, size, rest, are.0.few) in
    (record { memory = are.0.memory; some = omega arith; few = are.0.few; full = λ more. long }, tiers_with u ts are.1 (omega (arith, whole, size, long)) none memory)

pub items_with : {X : Type 0} (u : VecDeque X Global) (ts : List (VecDeque X Global)) → deque_len u ≡ 0 → in_tiers (ts ++ u ∷ []) ≡ in_tiers ts
items_with u [] none = ap (λ (ys : List _). ys ++ []) (nil_from_length u.items (omega (arith, none, tier_length u)))
items_with u (t ∷ ts) none = ap (λ (ys : List _). t.items ++ ys) (items_with u ts none)

-- items in order, and a place among them
pub tier_rises : {X : Type 0} (n : X → ℕ) (least k : ℕ) (t : VecDeque X Global) (ts : List (VecDeque X Global)) → AreTiers least ts → k < length ts → t ≡ get_or ts k t → IsNonDecreasingBy n (in_tiers ts) → IsNonDecreasingBy n t.items
tier_rises n least k t ts are l is rises = λ i j d le w.
    let e : n (get_or (in_tiers ts) (1024 * k + i) d) ≡ n (get_or t.items i d) = ap n (item_in_tier least k i t ts d are l is (omega (arith, le, w, tier_length t))) in
    let f : n (get_or (in_tiers ts) (1024 * k + j) d) ≡ n (get_or t.items j d) = ap n (item_in_tier least k j t ts d are l is (omega (arith, w, tier_length t))) in
    let up = length_up_to least k t ts are l is in
    omega (arith, rises (1024 * k + i) (1024 * k + j) d (omega (arith, le)) (omega (arith, w, up, tier_length t)), e, f)

pub point_in_tiers : {X : Type 0} (n : X → ℕ) (least m k p : ℕ) (t : VecDeque X Global) (ts : List (VecDeque X Global)) → AreTiers least ts → k < length ts → t ≡ get_or ts k t
    → AllWithin (λ (x : X). n x < m) (in_tiers ts) 0 (1024 * k) → AllWithin (λ (x : X). m ≤ n x) (in_tiers ts) (1024 * k + 1024) (length (in_tiers ts))
    → p ≤ deque_len t → IsPartitionPoint (λ (x : X). n x < m) (λ (x : X). m ≤ n x) t.items p → IsPartitionPoint (λ (x : X). n x < m) (λ (x : X). m ≤ n x) (in_tiers ts) (k * 1024 + p)
point_in_tiers n least m k p t ts are l is below behind le point = (
  (λ i d from w. elim (cases_lt i (1024 * k)) [
    | inl low ↦ below i d from low
    | inr high ↦
        let s : ℕ = i - 1024 * k in
        let within : s < p = omega (arith, w, high) in
        let e : n (get_or (in_tiers ts) i d) ≡ n (get_or t.items s d) = ap (λ j. n (get_or (in_tiers ts) j d)) (let same : i ≡ 1024 * k + s = omega (arith, high) in same) ∙ ap n (item_in_tier least k s t ts d are l is (omega (arith, within, le))) in
        omega (arith, e, point.0 s d (omega arith) within)
  ]),
  (λ i d from w. elim (cases_lt i (1024 * k + 1024)) [
    | inl low ↦
        let s : ℕ = i - 1024 * k in
        let same : i ≡ 1024 * k + s = omega (arith, from) in
        let within : s < deque_len t = slot_at least k s t ts are l is (omega (arith, low)) (omega (arith, same, w)) in
        let e : n (get_or (in_tiers ts) i d) ≡ n (get_or t.items s d) = ap (λ j. n (get_or (in_tiers ts) j d)) same ∙ ap n (item_in_tier least k s t ts d are l is within) in
        omega (arith, e, point.1 s d (omega (arith, from)) (omega (arith, within, tier_length t)))
    | inr high ↦ behind i d high w
  ]),
)

-- one more item, while the first tier keeps its length
pub one_more_above : {X : Type 0} (xs us ys vs : List X) (place : ℕ) (x : X) → us ++ vs ≡ insert (xs ++ ys) place x → place ≤ length (xs ++ ys) → length us ≡ length xs → length vs ≡ length ys + 1
one_more_above xs us ys vs place x is le same =
    omega (arith, ap length is, length-insert (xs ++ ys) place x le, length-append us vs, length-append xs ys, same)

pub room_with_tiers : {X : Type 0} (first : VecDeque X Global) (ts : List (VecDeque X Global)) → 0 < length ts → room_at_end first ts ≡ room_above ts
room_with_tiers first [] l = absurd (omega arith)
room_with_tiers first (t ∷ ts) l = refl

pub room_when_full : {X : Type 0} (first : VecDeque X Global) (ts : List (VecDeque X Global)) → 1024 ≤ deque_len first → room_at_end first ts ≡ room_above ts
room_when_full first [] l = omega (arith, l)
room_when_full first (t ∷ ts) l = refl

-- a spare tier stays one while the tiers keep their length
pub spare_stays : {X : Type 0} (us vs : Vec (VecDeque X Global)) (spare : Option (VecDeque X Global)) → vec_len vs ≡ vec_len us → vec_capacity vs ≡ vec_capacity us → IsSpare us spare → IsSpare vs spare
spare_stays us vs None long wide is = tt
spare_stays us vs (Some t) long wide is = (is.0, is.1, omega (arith, is.2, long, wide))
