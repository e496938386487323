use Rattle.std.proofs.Common.{arith}
use Rattle.codec_payload_references.proofs.NoteLemmas.{place_within, popped_within, put_more, put_none, put_popped}
use Rattle.codec_payload_references.proofs.notes.put.Goals as goal

pub insert-requires-clause-place : goal.insert-requires-clause-place
insert-requires-clause-place c = omega (arith, c.requires.place, place_within c.args.note.number c.args.held.now.items)

pub insert-requires-then-place-gt0-clause-place : goal.insert-requires-then-place-gt0-clause-place
insert-requires-then-place-gt0-clause-place c =
    omega (arith, c.requires.place, place_within c.args.note.number c.args.held.now.items, popped_within c.pop_front.result c.args.held.now.items c.pop_front.new.self.items c.pop_front.ensures.items)

pub returns-then-len-most-clause-items : goal.returns-then-len-most-clause-items
returns-then-len-most-clause-items c =
    put_more c.args.most c.args.place c.args.note c.args.held.now.items c.insert.new.self.items c.requires.place (omega (arith, c.if-len-most.true, c.len.ensures)) c.insert.ensures.items

pub returns-then-place-gt0-clause-items : goal.returns-then-place-gt0-clause-items
returns-then-place-gt0-clause-items c =
    put_popped c.args.most c.args.place c.args.note c.pop_front.result c.args.held.now.items c.pop_front.new.self.items c.insert-then-place-gt0.new.self.items
    c.pop_front.ensures.items c.pop_front.ensures.variant c.requires.place c.if-place-gt0.true (omega (arith, c.requires.few, c.if-len-most.false, c.len.ensures)) c.insert-then-place-gt0.ensures.items

pub returns-else-place-gt0-clause-items : goal.returns-else-place-gt0-clause-items
returns-else-place-gt0-clause-items c =
    put_none c.args.most c.args.note c.args.held.now.items (omega (arith, c.requires.place, c.if-place-gt0.false)) (omega (arith, c.requires.few, c.if-len-most.false, c.len.ensures))
