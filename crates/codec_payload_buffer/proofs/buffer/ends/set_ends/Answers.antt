use Rattle.std.proofs.Common.{ap, arith, length, map}
use Rattle.std.proofs.lemmas.List.{length-map}
use Rattle.codec_payload_buffer.specs.Held.{held_of}
use Rattle.codec_payload_buffer.specs.Ends.{mark_of}
use Rattle.codec_payload_buffer.proofs.MarkLemmas.{place_held}
use Rattle.codec_payload_buffer.proofs.RowEnds.{ends_written}
use Rattle.codec_payload_buffer.proofs.buffer.ends.set_ends.Goals as goal

pub set_mark-requires : goal.set_mark-requires
set_mark-requires c =
    let xs = c.args.packets.now.items in
    omega (arith, c.requires.from, place_held c.args.row.first (map held_of xs) c.requires.rises c.requires.first, length-map xs held_of)

pub set_mark-requires-2 : goal.set_mark-requires-2
set_mark-requires-2 c =
    let xs = c.args.packets.now.items in
    let mid = c.set_mark.new.packets.items in
    omega (arith, c.requires.to, place_held c.args.row.last (map held_of xs) c.requires.rises c.requires.last, length-map xs held_of, length-map mid held_of, ap length c.set_mark.ensures.held)

pub returns-clause-told : goal.returns-clause-told
returns-clause-told c =
    (ends_written c.args.packets.now.items c.set_mark.new.packets.items c.args.row (map mark_of c.set_mark-2.new.packets.items) c.requires.rises c.requires.first c.requires.last
    c.set_mark.ensures.held (rw c.requires.from at c.set_mark.ensures.marks) (rw c.requires.to at c.set_mark-2.ensures.marks)).told

pub returns-clause-others : goal.returns-clause-others
returns-clause-others c =
    (ends_written c.args.packets.now.items c.set_mark.new.packets.items c.args.row (map mark_of c.set_mark-2.new.packets.items) c.requires.rises c.requires.first c.requires.last
    c.set_mark.ensures.held (rw c.requires.from at c.set_mark.ensures.marks) (rw c.requires.to at c.set_mark-2.ensures.marks)).others
