use Rattle.std.proofs.Common.{◌-◌, ◌≤◌, length}
use Rattle.codec_payload_sending_forward.specs.Numbers.{above}
use Rattle.codec_payload_sending_forward.proofs.renumbering.count_above.Given as goal

-- all in front of `low` are above the number, and none from `high` on
abbrev pub invariant-loop-low : goal.invariant-loop-low
invariant-loop-low l = (l.low ≤ above l.number l.numbers.items) × (above l.number l.numbers.items ≤ l.high) × (l.high ≤ length l.numbers.items)

abbrev pub decreases-loop-low : goal.decreases-loop-low
decreases-loop-low l = l.high - l.low
