use Rattle.std.proofs.Common.{◌-◌, ◌*◌, ◌%◌, ◌^◌, arith, refl}
use Rattle.std.specs.Int.Count.{count_leading_zeros}
use Rattle.codec_payload_descriptor.proofs.StructureLemmas.{below_room, below_front, below_whole}
use Rattle.codec_payload_descriptor.proofs.fields.read_below.Goals as goal

pub overflow_sub-shorter : goal.overflow_sub-shorter
overflow_sub-shorter c = omega (arith, c.from.ensures, below_room c.args.count c.requires.some (omega arith))

pub returns-then-value-shorter-clause-small : goal.returns-then-value-shorter-clause-small
returns-then-value-shorter-clause-small c = below_front c.args.count c.in_ok-front.front c.requires.some (omega arith) c.in_ok-front.ensures.small

pub returns-clause-small : goal.returns-clause-small
returns-clause-small c =
    rw (c.from-2.ensures, c.from-value.ensures, c.from.ensures)
    (below_whole c.args.count c.in_ok-front.front (1 * 2 ^ (8 - count_leading_zeros 8 c.args.count) % 65536 - c.args.count) c.in_ok-last.last c.requires.some (omega arith) c.in_ok-front.ensures.small refl (omega (arith, c.from.ensures, c.from-value.ensures)) c.in_ok-last.ensures.small)
