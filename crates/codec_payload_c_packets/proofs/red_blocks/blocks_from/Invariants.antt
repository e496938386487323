use Rattle.std.proofs.Common.{◌≡◌, map, take}
use Rattle.std.specs.Prelude.{All}
use Rattle.codec_payload_core.specs.RedBlocks.{redundant_of}
use Rattle.codec_payload_c_packets.specs.RedCoding.{IsWithin, cut_from}
use Rattle.codec_payload_c_packets.proofs.red_blocks.blocks_from.Given as goal

abbrev pub invariant-loop-one : goal.invariant-loop-one
invariant-loop-one l = (map redundant_of l.blocks.items ≡ map (cut_from l.media) (take l.one-index l.older)) × All (IsWithin l.media) (take l.one-index l.older)
