use Rattle.std.proofs.Common.{◌≡◌, ◌-◌, ◌≤◌, length}
use Rattle.std.specs.Vec.{vec_len, vec_capacity}
use Rattle.codec_payload_queue.specs.Tiers.{AreTiers, in_tiers, with_carried}
use Rattle.codec_payload_queue.proofs.above.carry.Given as goal

-- with the carried item, the items are the same
abbrev pub invariant-loop-tier : goal.invariant-loop-tier
invariant-loop-tier g l = record {
  tiers : AreTiers 0 l.tiers.items;
  items : with_carried l.tier l.carried l.tiers.items ≡ with_carried l.initial.tier l.initial.carried l.initial.tiers.items;
  size : length (in_tiers l.tiers.items) ≡ length (in_tiers l.initial.tiers.items);
  len : vec_len l.tiers ≡ vec_len l.initial.tiers;
  capacity : vec_capacity l.tiers ≡ vec_capacity l.initial.tiers;
  within : l.tier ≤ l.last;
}

-- the tiers that are left
abbrev pub decreases-loop-tier : goal.decreases-loop-tier
decreases-loop-tier g l = l.last - l.tier
