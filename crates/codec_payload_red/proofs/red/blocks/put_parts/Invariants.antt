use Rattle.std.proofs.Common.{◌≡◌, ◌++◌, map, drop}
use Rattle.codec_payload_red.specs.RedBlocks.{redundant_of, part_of}
use Rattle.codec_payload_red.proofs.EncoderLoopLemmas.{given}
use Rattle.codec_payload_red.proofs.red.blocks.put_parts.Given as goal

abbrev pub invariant-loop-block : goal.invariant-loop-block
invariant-loop-block l = l.out.items ++ given (part_of l.part) l.left (drop l.block-index (map redundant_of l.redundant)) ≡ l.fn.out.items ++ given (part_of l.part) 32 (map redundant_of l.redundant)
