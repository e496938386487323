use Rattle.std.proofs.Common.{map}
use Rattle.std.proofs.lemmas.List.{map_push}
use Rattle.codec_payload_red.specs.RedRecovery.{recovered_from, packet_of}
use Rattle.codec_payload_red.proofs.ReceiverLoopLemmas.{one_more, none_more}
use Rattle.codec_payload_red.proofs.red.receiver.RedReceiver.recover_blocks.Goals as goal
use Rattle.codec_payload_red.proofs.red.receiver.RedReceiver.recover_blocks.Goals.{in-Some+in_ok-push, in_default}

pub loop-block-preserved : goal.loop-block-preserved
loop-block-preserved c =
    elim c.match-recover_block.branch [
      | in-Some+in_ok-push w ↦
          rw (w.found-is, w.in_ok-push.ensures.items, map_push packet_of c.loop-block.found.items w.in-Some.packet)
          (one_more (recovered_from c.args.self.now c.args.seq_no.0 c.args.rtp_time) (map packet_of c.loop-block.found.items) _ c.args.blocks.now c.loop-block.block-index _ (packet_of w.in-Some.packet) c.loop-block-test.true w.in-Some.ensures c.loop-block.invariant)
      | in_default w ↦
          rw w.found-is (none_more (recovered_from c.args.self.now c.args.seq_no.0 c.args.rtp_time) (map packet_of c.loop-block.found.items) _ c.args.blocks.now c.loop-block.block-index _ c.loop-block-test.true w.in_default.ensures c.loop-block.invariant)
    ]
