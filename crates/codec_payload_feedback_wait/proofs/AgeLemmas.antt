-- The limit covers each age.
use Rattle.std.proofs.Common.{◌≤◌, ◌<◌, ◌^◌, ◌+◌, ◌-◌, ◌/◌, ℕ, zero, suc, min, max, List, [], ◌∷◌, length, slice_index_or, arith}
use Rattle.std.proofs.Math.Nat.{le-max_left, le-max_right, le-min, le_trans, min-le_left, min-le_right}
use Rattle.codec_payload_feedback_wait.specs.Ages.{greatest_of}
use Rattle.codec_payload_feedback_wait.specs.Waits.{with_a_quarter}

-- no age is above the greatest
pub le-greatest : (ages : List ℕ) (k d : ℕ) → k < length ages → slice_index_or ages k d ≤ greatest_of ages
le-greatest [] k d h = absurd (omega (arith, h))
le-greatest (age ∷ ages) zero d h = le-max_left age (greatest_of ages)
le-greatest (age ∷ ages) (suc k) d h = le_trans (le-greatest ages k d (omega (arith, h))) (le-max_right age (greatest_of ages))

-- an age within the highest limit is covered
pub covered : (age greatest least longest : ℕ) → age ≤ greatest → longest < 2 ^ 64
    → min age longest ≤ min (max (with_a_quarter greatest) least) longest
covered age greatest least longest below bound =
    le-min (le_trans quarter (le-max_left (with_a_quarter greatest) least)) (min-le_right age longest)
  where
    longer : min age longest ≤ greatest + greatest / 4
    longer = omega (arith, min-le_left age longest, below)

    fits : min age longest ≤ 2 ^ 64 - 1
    fits = omega (arith, min-le_right age longest, bound)

    quarter : min age longest ≤ with_a_quarter greatest
    quarter = le-min longer fits
