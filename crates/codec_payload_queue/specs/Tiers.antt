-- A queue in tiers, and what it holds.
use Rattle.std.specs.Prelude.{◌≡◌, ℕ, zero, suc, ◌+◌, ◌-◌, ◌*◌, ◌<◌, ◌≤◌, List, [], ◌∷◌, ◌++◌, length, min, Option, Some, None, slice_index_or, slice_set}
use Rattle.std.specs.VecDeque.{deque_len, deque_capacity}
use Rattle.std.specs.Vec.{vec_len, vec_capacity}
use Rattle.std.specs.Global.{Vec, Global}
use Rattle.std.specs.declared.collections.VecDeque.{VecDeque}
use Rattle.codec_payload_queue.specs.declared.above.Above.{Above}

-- what a queue holds: its items, and for how many insertions there is memory
pub record Queue (X : Type 0) : Type 0 where
  pub items : List X
  pub room : ℕ

-- a note is written into the item at a place
pub record IsNotedAt {X N : Type 0} (is_noted : X → N → X → Type 0) (place : ℕ) (note : N) (before after : List X) : Type 0 where
  pub old : X
  pub new : X
  pub there : old ≡ slice_index_or before place old
  pub noted : is_noted old note new
  pub others : after ≡ slice_set before place new

-- the items of tiers, one tier after the other
abbrev pub in_tiers : {X : Type 0} → List (VecDeque X Global) → List X
in_tiers [] = []
in_tiers (t ∷ ts) = t.items ++ in_tiers ts

-- the same with one more item in front of tier k
abbrev pub with_carried : {X : Type 0} → ℕ → X → List (VecDeque X Global) → List X
with_carried k x [] = x ∷ []
with_carried zero x (t ∷ ts) = x ∷ (t.items ++ in_tiers ts)
with_carried (suc k) x (t ∷ ts) = t.items ++ with_carried k x ts

-- a tier below the tiers ts has memory for 1,024 items. It holds at least so many, and is full if there is another tier
pub record IsTier {X : Type 0} (least : ℕ) (t : VecDeque X Global) (ts : List (VecDeque X Global)) : Type 0 where
  pub memory : 1024 ≤ deque_capacity t
  pub some : least ≤ deque_len t
  pub few : deque_len t ≤ 1024
  pub full : 0 < length ts → deque_len t ≡ 1024

-- all tiers but the last are full
abbrev pub AreTiers : {X : Type 0} → ℕ → List (VecDeque X Global) → Type 0
AreTiers least [] = Unit {0}
AreTiers least (t ∷ ts) = IsTier least t ts × AreTiers least ts

-- for how many items there is memory in the last tier
abbrev pub room_above : {X : Type 0} → List (VecDeque X Global) → ℕ
room_above ts = 1024 * length ts - length (in_tiers ts)

-- for how many insertions there is memory without a spare tier
abbrev pub room_at_end : {X : Type 0} → VecDeque X Global → List (VecDeque X Global) → ℕ
room_at_end first [] = min (deque_capacity first) 1024 - deque_len first
room_at_end first (t ∷ ts) = room_above (t ∷ ts)

-- for how many insertions there is memory in a spare tier
abbrev pub spare_room : {X : Type 0} → Option (VecDeque X Global) → ℕ
spare_room None = 0
spare_room (Some t) = 1024

-- a spare tier is empty, has memory for 1,024 items, and there is a place for it
abbrev pub IsSpare : {X : Type 0} → Vec (VecDeque X Global) → Option (VecDeque X Global) → Type 0
IsSpare rest None = Unit {0}
IsSpare rest (Some t) = (deque_len t ≡ 0) × (1024 ≤ deque_capacity t) × (vec_len rest < vec_capacity rest)

-- the tiers above the first one, the spare tier, and the number of items in these tiers
abbrev pub tiers_of : {X : Type 0} → Option (Above X) → List (VecDeque X Global)
tiers_of None = []
tiers_of (Some a) = a.tiers.items

abbrev pub spare_of : {X : Type 0} → Option (Above X) → Option (VecDeque X Global)
spare_of None = None
spare_of (Some a) = a.spare

abbrev pub count_of : {X : Type 0} → Option (Above X) → ℕ
count_of None = 0
count_of (Some a) = a.count

abbrev pub IsNext : {X : Type 0} → Option (Above X) → Type 0
IsNext None = Unit {0}
IsNext (Some a) = IsSpare a.tiers a.spare

-- for how many insertions there is memory
abbrev pub room_of : {X : Type 0} → VecDeque X Global → Option (Above X) → ℕ
room_of first above = room_at_end first (tiers_of above) + spare_room (spare_of above)

-- the tiers fit each other
pub record IsTiered {X : Type 0} (first : VecDeque X Global) (above : Option (Above X)) : Type 0 where
  pub counted : count_of above ≡ length (in_tiers (tiers_of above))
  pub few : deque_len first ≤ 1024
  pub fits : length first.items + length (in_tiers (tiers_of above)) < 18446744073709551616
  pub some : 0 < length (tiers_of above) → 0 < deque_len first
  pub wide : 0 < length (tiers_of above) → 1024 ≤ deque_capacity first
  pub ready : 0 < spare_room (spare_of above) → 1024 ≤ deque_capacity first
  pub tiers : AreTiers 1 (tiers_of above)
  pub next : IsNext above

-- an invariant of all queues in tiers
pub record IsQueue {X : Type 0} (first : VecDeque X Global) (above : Option (Above X)) (count : ℕ) : Type 0 where
  pub all : count ≡ length first.items + length (in_tiers (tiers_of above))
  pub fit : IsTiered first above
