use Rattle.std.proofs.Common.{map}
use Rattle.codec_payload_buffer.specs.Held.{held_of}
use Rattle.codec_payload_buffer.specs.Ends.{mark_of}
use Rattle.codec_payload_buffer.proofs.RowEnds.{short_row, evicted, evicted_told}
use Rattle.codec_payload_buffer.proofs.buffer.ends.evict.Goals as goal

pub shorten-rest-requires-clause-ends : goal.shorten-rest-requires-clause-ends
shorten-rest-requires-clause-ends c =
    let hs = map held_of c.args.packets.now.items in
    let left = map held_of c.take_lowest-number.new.packets.items in
    (short_row hs left _ c.lowest_row-row.result c.requires.rises c.lowest_row-row.ensures c.take_lowest-number.ensures.lowest).order

pub shorten-rest-requires-clause-head : goal.shorten-rest-requires-clause-head
shorten-rest-requires-clause-head c =
    let hs = map held_of c.args.packets.now.items in
    let left = map held_of c.take_lowest-number.new.packets.items in
    (short_row hs left _ c.lowest_row-row.result c.requires.rises c.lowest_row-row.ensures c.take_lowest-number.ensures.lowest).kept

pub set_lowest_ends-requires-clause-lowest : goal.set_lowest_ends-requires-clause-lowest
set_lowest_ends-requires-clause-lowest c =
    let hs = map held_of c.args.packets.now.items in
    let left = map held_of c.take_lowest-number.new.packets.items in
    (evicted hs left _ c.lowest_row-row.result c.shorten-rest.result c.requires.rises c.lowest_row-row.ensures c.take_lowest-number.ensures.lowest c.shorten-rest.ensures).lowest

pub returns-clause-frames : goal.returns-clause-frames
returns-clause-frames c =
    let hs = map held_of c.args.packets.now.items in
    let left = map held_of c.take_lowest-number.new.packets.items in
    let is = evicted hs left _ c.lowest_row-row.result c.shorten-rest.result c.requires.rises c.lowest_row-row.ensures c.take_lowest-number.ensures.lowest c.shorten-rest.ensures in
    rw (c.set_lowest_ends.ensures.held, c.frame_of.ensures, c.frame_of_left.ensures) is.frames_are

pub returns-clause-some : goal.returns-clause-some
returns-clause-some c =
    let hs = map held_of c.args.packets.now.items in
    let left = map held_of c.take_lowest-number.new.packets.items in
    let is = evicted hs left _ c.lowest_row-row.result c.shorten-rest.result c.requires.rises c.lowest_row-row.ensures c.take_lowest-number.ensures.lowest c.shorten-rest.ensures in
    rw c.frame_of.ensures is.some

pub returns-clause-told : goal.returns-clause-told
returns-clause-told c =
    rw c.set_lowest_ends.ensures.held (evicted_told c.args.packets.now.items c.take_lowest-number.new.packets.items (map mark_of c.set_lowest_ends.new.packets.items) _ c.lowest_row-row.result c.shorten-rest.result
    c.requires.rises c.requires.told c.lowest_row-row.ensures c.take_lowest-number.ensures.lowest c.take_lowest-number.ensures.rest c.shorten-rest.ensures c.set_lowest_ends.ensures.told c.set_lowest_ends.ensures.others)
