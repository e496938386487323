use Rattle.std.proofs.Common.{arith}
use Rattle.codec_payload_fec.proofs.PutLemmas.{group_done}
use Rattle.codec_payload_fec.proofs.writing.put_group.Goals as goal

pub returns-clause-ok : goal.returns-clause-ok
returns-clause-ok c =
    group_done c.args.protection c.args.group.now c.loop-n.n c.fec_count-count.result c.args.out.now.payloads c.loop-n.out.payloads c.loop-n.invariant.0 (omega arith) c.fec_count-count.ensures.value
