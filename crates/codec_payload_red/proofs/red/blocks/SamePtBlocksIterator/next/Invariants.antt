use Rattle.std.proofs.Common.{◌≡◌, ◌-◌, length, drop}
use Rattle.codec_payload_red.specs.RedBlocks.{same_pt}
use Rattle.codec_payload_red.proofs.red.blocks.SamePtBlocksIterator.next.Given as goal

-- the skipped blocks are of another type
abbrev pub invariant-loop-self : goal.invariant-loop-self
invariant-loop-self l = same_pt l.self-inside.pt (drop l.self-inside.at l.self-inside.blocks.now) ≡ l.fn.self

abbrev pub decreases-loop-self : goal.decreases-loop-self
decreases-loop-self l = length l.self-inside.blocks.now - l.self-inside.at
