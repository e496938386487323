use Rattle.std.proofs.Common.{arith, ◌<◌, map}
use Rattle.codec_payload_buffer.specs.Held.{held_of}
use Rattle.codec_payload_buffer.proofs.RowEnds.{lowest_there}
use Rattle.codec_payload_buffer.proofs.buffer.ends.set_lowest_ends.Goals as goal

pub overflow_sub-row : goal.overflow_sub-row
overflow_sub-row c =
    let there = lowest_there (map held_of c.args.packets.now.items) c.in-Some.row c.requires.rises (rw c.in-Some.is at c.requires.lowest) in
    there.order

pub set_ends-requires-clause-from : goal.set_ends-requires-clause-from
set_ends-requires-clause-from c =
    let there = lowest_there (map held_of c.args.packets.now.items) c.in-Some.row c.requires.rises (rw c.in-Some.is at c.requires.lowest) in
    there.from

pub set_ends-requires-clause-to : goal.set_ends-requires-clause-to
set_ends-requires-clause-to c =
    let there = lowest_there (map held_of c.args.packets.now.items) c.in-Some.row c.requires.rises (rw c.in-Some.is at c.requires.lowest) in
    there.to

pub set_ends-requires-clause-first : goal.set_ends-requires-clause-first
set_ends-requires-clause-first c =
    let there = lowest_there (map held_of c.args.packets.now.items) c.in-Some.row c.requires.rises (rw c.in-Some.is at c.requires.lowest) in
    there.first

pub set_ends-requires-clause-last : goal.set_ends-requires-clause-last
set_ends-requires-clause-last c =
    let there = lowest_there (map held_of c.args.packets.now.items) c.in-Some.row c.requires.rises (rw c.in-Some.is at c.requires.lowest) in
    there.last

pub returns-in-Some-clause-others : goal.returns-in-Some-clause-others
returns-in-Some-clause-others c =
    let there = lowest_there (map held_of c.args.packets.now.items) c.in-Some.row c.requires.rises (rw c.in-Some.is at c.requires.lowest) in
    λ k beyond.
    let l : c.in-Some.row.last < k = rw c.in-Some.is at beyond in
    c.set_ends.ensures.others k (omega (arith, l, there.order)) (omega (arith, l))
