use Rattle.std.proofs.Common.{rules}
use Rattle.codec_payload_fec_receiver.proofs.HeldLemmas.{marked_more}
use Rattle.codec_payload_fec_receiver.proofs.fec_receiver.mark.Goals as goal

pub loop-fec-preserved : goal.loop-fec-preserved
loop-fec-preserved c =
    marked_more c.args.number c.loop-fec.fec-index c.loop-fec.fecs c.args.fecs.now c.fec-item.result c.fec-item.result c.mark_one.new.fec c.loop-fec-test.true (search rules) c.loop-fec.invariant c.fec-item.is
    (rw (← c.fec-item.is) at c.mark_one.ensures)
