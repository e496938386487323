use Rattle.std.proofs.Common.{◌<◌, [], arith, false, length}
use Rattle.codec_payload_core.specs.RedBlocks.{blocks_of}
use Rattle.codec_payload_core.specs.declared.red.RedBlock.{RedBlock}
use Rattle.codec_payload_c_packets.specs.RedPlaces.{block_place}
use Rattle.codec_payload_c_packets.proofs.FrameLemmas.{behind_more, told_more}
use Rattle.codec_payload_c_packets.proofs.RedPlaceLemmas.{placed_is, start_fits, start_next}
use Rattle.codec_payload_c_packets.proofs.red_places.place_blocks.Goals as goal

pub overflow_add-start : goal.overflow_add-start
overflow_add-start c =
    let d : RedBlock = record { pt = 0; timestamp_offset = 0; payload = record { ref_ptr = (0, 0); now = [] }; is_primary = false } in
    omega (arith, c.requires.within, start_fits c.args.front c.args.blocks.now c.loop-place.place d c.loop-place.start c.loop-place-test.true c.loop-place.invariant.start)

pub loop-place-preserved : goal.loop-place-preserved
loop-place-preserved c =
    let below : c.loop-place.place < length c.args.blocks.now = c.loop-place-test.true in
    record {
      start = start_next c.args.front c.args.blocks.now c.loop-place.place _ c.loop-place.start below c.loop-place.invariant.start;
      behind = behind_more c.loop-place.places c.args.places.now c.loop-place.place _ c.loop-place.invariant.behind;
      so_far = told_more (block_place c.args.front (blocks_of c.args.blocks.now)) c.loop-place.places c.loop-place.place _
          (omega (arith, below, c.requires.room, c.loop-place.auto.places))
          (placed_is c.args.front c.args.blocks.now c.loop-place.place _ c.loop-place.start below c.loop-place.invariant.start) c.loop-place.invariant.so_far;
    }
