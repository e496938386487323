use Rattle.std.proofs.Common.{◌≡◌, ◌+◌, ◌-◌, ◌∙◌, ap, arith, get_or, ℕ}
use Rattle.codec_payload_buffer.specs.declared.buffer.held_packet.HeldPacket.{HeldPacket}
use Rattle.codec_payload_buffer.proofs.HeldRowLemmas.{grown, row_of_last}
use Rattle.codec_payload_buffer.proofs.SearchLemmas.{same_there}
use Rattle.codec_payload_buffer.proofs.buffer.packets.row_from.Goals as goal

pub overflow_sub-at : goal.overflow_sub-at
overflow_sub-at c =
    let grow = grown c.args.packets.now.items c.args.place (c.args.place + (c.len.result - c.args.place - 1)) c.at.result.now c.at-2.result.now c.requires.rises (omega arith)
    (omega (arith, c.requires.place, c.len.ensures)) c.at.ensures c.at-2.ensures in
    omega (arith, grow)

pub returns-then-at-first : goal.returns-then-at-first
returns-then-at-first c =
    let xs = c.args.packets.now.items in
    let grow = grown xs c.args.place (c.args.place + (c.len.result - c.args.place - 1)) c.at.result.now c.at-2.result.now c.requires.rises (omega arith)
    (omega (arith, c.requires.place, c.len.ensures)) c.at.ensures c.at-2.ensures in
    let first = λ (p : HeldPacket). ap (λ (q : HeldPacket). q.number) (c.at.ensures ∙ same_there xs c.args.place c.at.result.now p c.requires.place) in
    row_of_last xs c.args.place (c.len.result - c.args.place) c.requires.rises (omega (arith, c.requires.place, c.len.ensures)) (omega (arith, c.requires.place, c.len.ensures))
    (λ p k last.
    let place : c.args.place + k ≡ c.args.place + (c.len.result - c.args.place - 1) = omega (arith, last) in
    let here = ap (λ (q : HeldPacket). q.number) (c.at-2.ensures ∙ same_there xs (c.args.place + (c.len.result - c.args.place - 1)) c.at-2.result.now p (omega (arith, c.requires.place, c.len.ensures))) in
    omega (arith, first p, here, last, c.if-at-first.true, ap (λ (j : ℕ). (get_or xs j p).number) place, grow))
    (λ p over. absurd (omega (arith, over, c.len.ensures)))

pub overflow_sub-at-in-loop-low : goal.overflow_sub-at-in-loop-low
overflow_sub-at-in-loop-low c =
    let grow = grown c.args.packets.now.items c.args.place (c.args.place + (c.loop-low.low + c.min.result)) c.at.result.now c.at-in-loop-low.result.now c.requires.rises (omega arith)
    (omega (arith, c.loop-low.invariant.within, c.loop-low-test.true, c.min.ensures)) c.at.ensures c.at-in-loop-low.ensures in
    omega (arith, grow)

pub returns : goal.returns
returns c =
    let xs = c.args.packets.now.items in
    row_of_last xs c.args.place c.loop-low.low c.requires.rises c.loop-low.invariant.some (omega (arith, c.loop-low.invariant.order, c.loop-low.invariant.within))
    (λ p k last. omega (arith, c.loop-low.invariant.row p k last, c.loop-low.invariant.first p))
    (λ p over.
    let same : c.loop-low.low ≡ c.loop-low.high = omega (arith, c.loop-low.invariant.order, c.loop-low-test.false) in
    let place : c.args.place + c.loop-low.low ≡ c.args.place + c.loop-low.high = omega (arith, same) in
    λ is. c.loop-low.invariant.end p (omega (arith, over, same)) (omega (arith, is, c.loop-low.invariant.first p, same, ap (λ (j : ℕ). (get_or xs j p).number) place)))
