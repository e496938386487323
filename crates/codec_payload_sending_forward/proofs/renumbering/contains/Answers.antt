use Rattle.std.proofs.Common.{rules, arith}
use Rattle.codec_payload_sending_forward.proofs.NumberLemmas.{in_here, in_past}
use Rattle.codec_payload_sending_forward.proofs.renumbering.contains.Goals as goal

pub returns-then-count-len : goal.returns-then-count-len
returns-then-count-len c =
    in_here c.args.number c.index.result.now c.args.count c.args.numbers.now.items c.requires.falls c.requires.count (omega arith) (search rules)

pub returns-else-count-len : goal.returns-else-count-len
returns-else-count-len c =
    in_past c.args.number c.args.count c.len.result c.args.numbers.now.items c.requires.falls c.requires.count (search rules) (omega arith)
