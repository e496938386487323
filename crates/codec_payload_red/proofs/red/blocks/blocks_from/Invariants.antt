use Rattle.std.proofs.Common.{◌≡◌, ◌-◌, ◌*◌, ◌<◌, length, map}
use Rattle.codec_payload_red.specs.RedReading.{blocks_at}
use Rattle.codec_payload_red.specs.RedBlocks.{blocks_of, older, older_of}
use Rattle.codec_payload_red.proofs.DecoderLoopLemmas.{with_front}
use Rattle.codec_payload_red.proofs.red.blocks.blocks_from.Given as goal

abbrev pub invariant-loop : goal.invariant-loop
invariant-loop l = record {
  whole : with_front (map older_of l.found.items) (blocks_at (l.count - l.counter) l.heads l.rest) ≡ blocks_at l.count l.headers l.bodies;
  plain : blocks_of l.found.items ≡ map older (map older_of l.found.items);
  there : 4 * (l.count - l.counter) < length l.heads;
}
