use Rattle.std.proofs.Common.{arith}
use Rattle.codec_payload_fec.proofs.XorLemmas.{summed}
use Rattle.codec_payload_fec.proofs.strings.xor_into.Goals as goal

pub returns : goal.returns
returns c =
    summed c.args.sum.now c.args.bytes.now c.loop-i.sum c.loop-i.i c.loop-i.auto.sum (omega arith) c.loop-i.invariant.0 c.loop-i.invariant.1
