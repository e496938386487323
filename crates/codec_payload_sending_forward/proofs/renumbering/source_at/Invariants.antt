use Rattle.std.proofs.Common.{◌+◌, ◌-◌, ◌≤◌, length}
use Rattle.codec_payload_sending_forward.specs.Numbers.{source_at}
use Rattle.codec_payload_sending_forward.proofs.renumbering.source_at.Given as goal

-- none in front of `low` is below its number, and all from `high` on are
abbrev pub invariant-loop-low : goal.invariant-loop-low
invariant-loop-low l =
    (l.low ≤ l.high) × (l.high ≤ length l.left_out.items)
    × (l.place + (length l.left_out.items - l.high) ≤ source_at l.place l.left_out.items)
    × (source_at l.place l.left_out.items ≤ l.place + (length l.left_out.items - l.low))

abbrev pub decreases-loop-low : goal.decreases-loop-low
decreases-loop-low l = l.high - l.low
