use Rattle.std.proofs.Common.{◌+◌, ◌*◌, ◌-◌, ◌<◌, ◌≤◌, length}
use Rattle.std.specs.List.{AllWithin}
use Rattle.codec_payload_queue.specs.Tiers.{in_tiers}
use Rattle.codec_payload_queue.proofs.above.search_tiers.Given as goal

-- the tier of the place is still between both
abbrev pub invariant-loop-low : goal.invariant-loop-low
invariant-loop-low g l = record {
  order : l.low ≤ l.high;
  bound : l.high < length l.tiers.items;
  below : AllWithin (λ x. g.T.Numbered.number_of x < l.number) (in_tiers l.tiers.items) 0 (1024 * l.low);
  behind : AllWithin (λ x. l.number ≤ g.T.Numbered.number_of x) (in_tiers l.tiers.items) (1024 * l.high + 1024) (length (in_tiers l.tiers.items));
}

abbrev pub decreases-loop-low : goal.decreases-loop-low
decreases-loop-low g l = l.high - l.low
