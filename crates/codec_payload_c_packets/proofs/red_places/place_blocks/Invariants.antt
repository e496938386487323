use Rattle.std.proofs.Common.{◌≡◌, ◌+◌, ◌<◌, ℕ, Some, take, drop, slice_get}
use Rattle.codec_payload_core.specs.RedBlocks.{blocks_of}
use Rattle.codec_payload_c_packets.specs.RedPlaces.{block_place, bytes_in}
use Rattle.codec_payload_c_packets.proofs.red_places.place_blocks.Given as goal

-- the blocks in front of this place are described, and the descriptions after it are unchanged
abbrev pub invariant-loop-place : goal.invariant-loop-place
invariant-loop-place l = record {
  start : l.start ≡ l.front + bytes_in (take l.place (blocks_of l.blocks));
  behind : drop l.place l.places ≡ drop l.place l.fn.places;
  so_far : (k : ℕ) → k < l.place → slice_get l.places k ≡ Some (block_place l.front (blocks_of l.blocks) k);
}
