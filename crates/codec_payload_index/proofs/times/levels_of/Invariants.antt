use Rattle.std.proofs.Common.{◌≡◌, ◌++◌, ◌∷◌, [], length}
use Rattle.codec_payload_index.specs.Times.{bottom}
use Rattle.codec_payload_index.proofs.LevelLemmas.{AreHalved}
use Rattle.codec_payload_index.proofs.times.levels_of.Given as goal

-- the levels up to the last one
abbrev pub invariant-loop-alloc : goal.invariant-loop-alloc
invariant-loop-alloc l = record {
  are : AreHalved (l.levels.items ++ l.last ∷ []);
  times : bottom (l.levels.items ++ l.last ∷ []) ≡ l.initial.last.items;
}

-- the last level gets shorter
abbrev pub decreases-loop-alloc : goal.decreases-loop-alloc
decreases-loop-alloc l = length l.last.items
