use Rattle.std.proofs.Common.{◌+◌, ◌≤◌, ◌<◌, length}
use Rattle.std.specs.List.{AllWithin}
use Rattle.codec_payload_queue.proofs.search.search_in.Given as goal

-- the place is between both
abbrev pub invariant-loop-size : goal.invariant-loop-size
invariant-loop-size g l = record {
  bound : l.low + l.size ≤ length l.items.items;
  below : AllWithin (λ x. g.T.Numbered.number_of x < l.number) l.items.items 0 l.low;
  behind : AllWithin (λ x. l.number ≤ g.T.Numbered.number_of x) l.items.items (l.low + l.size) (length l.items.items);
}

-- a quarter is left
abbrev pub decreases-loop-size : goal.decreases-loop-size
decreases-loop-size g l = l.size

abbrev pub invariant-loop-size-2 : goal.invariant-loop-size-2
invariant-loop-size-2 g l = record {
  bound : l.low + l.size ≤ length l.items.items;
  below : AllWithin (λ x. g.T.Numbered.number_of x < l.number) l.items.items 0 l.low;
  behind : AllWithin (λ x. l.number ≤ g.T.Numbered.number_of x) l.items.items (l.low + l.size) (length l.items.items);
}

-- one less is left
abbrev pub decreases-loop-size-2 : goal.decreases-loop-size-2
decreases-loop-size-2 g l = l.size
