use Rattle.codec_payload_av1.proofs.Av1TakingBytes.{received_begun}
use Rattle.codec_payload_av1.proofs.av1.depacketizer.Av1Depacketizer.take_elements_of.Goals as goal

pub returns-clause-taken : goal.returns-clause-taken
returns-clause-taken c = rw (← received_begun c.args.self.now c.args.header.byte c.args.bytes.now)
    (rw (c.keep_begun.ensures, c.self.view_is, c.reserve_for_first.ensures) at c.take_elements.ensures.taken)
