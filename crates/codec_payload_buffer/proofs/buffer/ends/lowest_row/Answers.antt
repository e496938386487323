use Rattle.std.proofs.Common.{arith, ◌<◌, length}
use Rattle.codec_payload_buffer.proofs.RowEnds.{lowest_found}
use Rattle.codec_payload_buffer.proofs.buffer.ends.lowest_row.Goals as goal

pub overflow_sub-after : goal.overflow_sub-after
overflow_sub-after c =
    let some : 0 < length c.args.packets.now.items = omega (arith, c.requires.some) in
    let found = lowest_found c.args.packets.now.items c.at-entry.result.now c.requires.rises c.requires.told some c.at-entry.ensures in
    rw c.deref.ensures found.order

pub row_to-requires : goal.row_to-requires
row_to-requires c =
    let some : 0 < length c.args.packets.now.items = omega (arith, c.requires.some) in
    let found = lowest_found c.args.packets.now.items c.at-entry.result.now c.requires.rises c.requires.told some c.at-entry.ensures in
    rw c.deref.ensures (omega (arith, found.within))

pub returns : goal.returns
returns c =
    let some : 0 < length c.args.packets.now.items = omega (arith, c.requires.some) in
    let found = lowest_found c.args.packets.now.items c.at-entry.result.now c.requires.rises c.requires.told some c.at-entry.ensures in
    rw c.row_to.ensures.2 (found.whole c.row_to.ensures.0 (rw c.deref.ensures at c.row_to.ensures.1))
