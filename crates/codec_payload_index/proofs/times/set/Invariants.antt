use Rattle.std.proofs.Common.{◌≡◌, ◌-◌, ◌≤◌, length, set}
use Rattle.std.specs.Vec.{vec_len}
use Rattle.codec_payload_index.specs.Times.{bottom}
use Rattle.codec_payload_index.proofs.LevelLemmas.{IsPending, first_after}
use Rattle.codec_payload_index.proofs.times.set.Given as goal

-- the levels below this one are right
abbrev pub invariant-loop-level : goal.invariant-loop-level
invariant-loop-level l = record {
  pending : IsPending l.level l.place_there l.time_there l.levels.items;
  first : first_after l.level l.place_there l.time_there (bottom l.levels.items) ≡ set (bottom l.initial.levels.items) l.place l.time;
  within : l.level ≤ length l.levels.items;
}

-- the levels that are left
abbrev pub decreases-loop-level : goal.decreases-loop-level
decreases-loop-level l = vec_len l.levels - l.level
