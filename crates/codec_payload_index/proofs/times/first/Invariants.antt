use Rattle.std.proofs.Common.{◌≡◌, ◌<◌, length, drop}
use Rattle.codec_payload_index.specs.Times.{bottom, first_come}
use Rattle.codec_payload_index.proofs.times.first.Given as goal

-- the place in this level
abbrev pub invariant-loop-level : goal.invariant-loop-level
invariant-loop-level l = record {
  found : l.place ≡ first_come l.now (bottom (drop l.level l.levels.items));
  within : l.level < length l.levels.items;
}

-- the levels below it
abbrev pub decreases-loop-level : goal.decreases-loop-level
decreases-loop-level l = l.level
