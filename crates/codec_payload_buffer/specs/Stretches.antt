-- The effect of a stretch of pushes, in terms of the set of pushed numbers.
use Rattle.std.specs.Prelude.{◌≡◌, ℕ, zero, suc, ◌+◌, ◌-◌, ◌<◌, ◌≤◌, ◌&&◌, ◌||◌, not, Bool, true, false, List, [], ◌∷◌, Option, Some, length, map, take, drop, filter}
use Rattle.codec_payload_buffer.specs.Held.{Held, number_of, has_number}
use Rattle.codec_payload_buffer.specs.Steps.{State, IsSound, pushed, is_at_most}

-- the pushes of one stretch, one by one
abbrev pub after_pushes : State → List Held → State
after_pushes s [] = s
after_pushes s (p ∷ ps) = after_pushes (pushed s p) ps

-- the given number of consecutive numbers, from n on
abbrev pub numbers_from : ℕ → ℕ → List ℕ
numbers_from n zero = []
numbers_from n (suc count) = n ∷ numbers_from (n + 1) count

-- the last number, or else the given one
abbrev pub last_or : List ℕ → Option ℕ → Option ℕ
last_or [] c = c
last_or (n ∷ ns) c = last_or ns (Some n)

-- there is one
abbrev pub is_some_of : List ℕ → Bool
is_some_of [] = false
is_some_of (n ∷ ns) = true

-- the number counts: it was held, or it was pushed and is above the cutoff. The order of arrival does not matter
abbrev pub counts : State → List Held → ℕ → Bool
counts s ps n = has_number n s.held || (not (is_at_most s.cutoff n) && has_number n ps)

-- the numbers of a range that count, in rising order
abbrev pub stretch_numbers : State → List Held → ℕ → ℕ → List ℕ
stretch_numbers s ps low count = filter (counts s ps) (numbers_from low count)

-- the numbers that are dropped, and the numbers that are kept: the highest ones, as many as the limit
abbrev pub left_out : State → List ℕ → List ℕ
left_out s all = take (length all - s.limit) all

abbrev pub kept : State → List ℕ → List ℕ
kept s all = drop (length all - s.limit) all

-- the highest numbers are held; if some are dropped, the highest of these is the cutoff, and a packet was evicted
pub record IsLeft (s : State) (all : List ℕ) (t : State) : Type 0 where
  pub held : map number_of t.held ≡ kept s all
  pub cutoff : t.cutoff ≡ last_or (left_out s all) s.cutoff
  pub evicted : t.evicted ≡ (is_some_of (left_out s all) || s.evicted)
  pub contiguity : t.contiguity ≡ s.contiguity
  pub depacketizer : t.depacketizer ≡ s.depacketizer
  pub hold_back : t.hold_back ≡ s.hold_back
  pub limit : t.limit ≡ s.limit

-- the range has every number that counts
abbrev pub IsInRange : State → List Held → ℕ → ℕ → Type 0
IsInRange s ps low count = (n : ℕ) → counts s ps n ≡ true → (low ≤ n) × (n < low + count)

-- the set of numbers decides what a stretch of pushes leaves
abbrev pub LeavesNumbers : Type 0
LeavesNumbers = (s : State) (ps : List Held) (low count : ℕ) → IsSound s → IsInRange s ps low count → IsLeft s (stretch_numbers s ps low count) (after_pushes s ps)

-- the same, except which packet of a number is held
pub record HaveSameNumbers (t u : State) : Type 0 where
  pub held : map number_of t.held ≡ map number_of u.held
  pub cutoff : t.cutoff ≡ u.cutoff
  pub evicted : t.evicted ≡ u.evicted
  pub contiguity : t.contiguity ≡ u.contiguity
  pub depacketizer : t.depacketizer ≡ u.depacketizer
  pub hold_back : t.hold_back ≡ u.hold_back
  pub limit : t.limit ≡ u.limit

-- neither the order of the pushes nor repeats matter
abbrev pub OrderIsFree : Type 0
OrderIsFree = (s : State) (ps qs : List Held) → IsSound s → ((n : ℕ) → has_number n ps ≡ has_number n qs) → HaveSameNumbers (after_pushes s ps) (after_pushes s qs)
