use Rattle.codec_payload_fec.proofs.StoreLemmas.{emptied_more}
use Rattle.codec_payload_fec.proofs.store.empty.Goals as goal

pub loop-slot-preserved : goal.loop-slot-preserved
loop-slot-preserved c = emptied_more c.loop-slot.slot-index c.args.slots.now c.loop-slot.slots c.loop-slot-test.true c.loop-slot.invariant
