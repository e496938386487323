use Rattle.std.proofs.Common.{rules}
use Rattle.codec_payload_c_packets.proofs.BlockLemmas.{one_more}
use Rattle.codec_payload_c_packets.proofs.red_blocks.blocks_from.Goals as goal

pub loop-one-preserved : goal.loop-one-preserved
loop-one-preserved c =
    rw c.in-Ok-push.ensures.items
    (one_more c.args.media.now _ _ c.args.older.now c.loop-one.one-index _ c.loop-one-test.true (search rules) c.in-Some.ensures.some.0 c.loop-one.invariant)
