use Rattle.std.proofs.Common.{◌/◌, arith, refl}
use Rattle.codec_payload_queue.proofs.SearchLemmas.{IsNarrow, one_quarter, none_below}
use Rattle.codec_payload_queue.proofs.search.search_in.Goals as goal

pub loop-size-preserved : goal.loop-size-preserved
loop-size-preserved g c =
    let n = g.T.Numbered.number_of in
    let q = c.loop-size.size / 4 in
    let narrow : IsNarrow n c.args.items.now.items c.args.number c.loop-size.low c.loop-size.size =
    record { bound = c.loop-size.invariant.bound; below = c.loop-size.invariant.below; behind = c.loop-size.invariant.behind } in
    let next = one_quarter n c.args.items.now.items c.args.number c.loop-size.low c.loop-size.size q c.index.result.now c.index-in-loop-size.result.now c.index-in-loop-size-2.result.now
    _ _ _ c.requires narrow (omega arith) (omega arith) c.index.ensures c.index-in-loop-size.ensures c.index-in-loop-size-2.ensures refl refl refl in
    rw (c.from.ensures, c.from-in-loop-size.ensures, c.from-in-loop-size-2.ensures, c.number.ensures, c.number-in-loop-size.ensures, c.number-in-loop-size-2.ensures)
    (record { bound = next.bound; below = next.below; behind = next.behind })

pub returns-else-number-clause-point : goal.returns-else-number-clause-point
returns-else-number-clause-point g c =
    let high = none_below g.T.Numbered.number_of c.args.items.now.items c.args.number c.loop-size-2.low c.index-in-loop-size-2-2.result.now c.requires
    (omega (arith, c.loop-size-2.invariant.bound)) c.index-in-loop-size-2-2.ensures (omega (arith, c.number-in-loop-size-2-2.ensures, c.if-number.false)) in
    (c.loop-size-2.invariant.below, high)
