-- The levels that are kept are the longest beginning that fits.
use Rattle.std.proofs.Common.{◌≡◌, ℕ, ◌+◌, ◌-◌, ◌≤◌, List, [], ◌∷◌, ◌++◌, length, refl, ap, arith, inl, inr}
use Rattle.std.proofs.lemmas.Bool.{cases_lt, lt-ltb, le-ltb}
use Rattle.std.specs.Prelude.{sum_by}
use Rattle.std.proofs.lemmas.List.Sums.{sum_by-cons}
use Rattle.codec_payload_red.specs.RedPayload.{Redundant}
use Rattle.codec_payload_red.specs.RedLevels.{within, cost, levels_of, room_of, kept, Sender, IsLongest}

pub within_fits : (room : ℕ) (bs : List Redundant) → sum_by cost (within room bs) ≤ room
unfolding within
within_fits room [] = omega arith
within_fits room (b ∷ bs) = elim (cases_lt room (cost b)) [
  | inl over ↦ rw (lt-ltb room (cost b) over) (omega arith)
  | inr enough ↦ rw (le-ltb room (cost b) enough, sum_by-cons cost b (within (room - cost b) bs)) (omega (arith, within_fits (room - cost b) bs))
]

pub within_begins : (room : ℕ) (bs : List Redundant) → (rest : List Redundant) × (bs ≡ within room bs ++ rest)
unfolding within
within_begins room [] = ([], refl)
within_begins room (b ∷ bs) = elim (cases_lt room (cost b)) [
  | inl over ↦ rw (lt-ltb room (cost b) over) (b ∷ bs, refl)
  | inr enough ↦ rw (le-ltb room (cost b) enough) (let more = within_begins (room - cost b) bs in (more.0, ap (λ t. b ∷ t) more.1))
]

within_most : (room : ℕ) (bs front rest : List Redundant) → bs ≡ front ++ rest → sum_by cost front ≤ room → length front ≤ length (within room bs)
unfolding within
within_most room bs [] rest e fit = omega arith
within_most room [] (f ∷ front) rest e fit = cc
within_most room (b ∷ bs) (f ∷ front) rest e fit =
    let first : b ≡ f = cc in
    let more : bs ≡ front ++ rest = cc in
    let same : cost b ≡ cost f = ap cost first in
    let fit' : cost f + sum_by cost front ≤ room = rw (sum_by-cons cost f front) at fit in
    let enough : cost b ≤ room = omega (arith, same, fit') in
    let less : sum_by cost front ≤ room - cost b = omega (arith, same, fit') in
    let there = within_most (room - cost b) bs front rest more less in
    rw (le-ltb room (cost b) enough) (omega (arith, there))

within_is_longest : (room : ℕ) (bs : List Redundant) → IsLongest room bs (within room bs)
within_is_longest room bs = record { beginning = within_begins room bs; fits = within_fits room bs; most = within_most room bs }

pub kept_is_longest : (s : Sender) (len time budget : ℕ) → IsLongest (room_of len budget) (levels_of s time) (kept s len time budget)
kept_is_longest s len time budget = within_is_longest (room_of len budget) (levels_of s time)
