use Rattle.std.proofs.Common.{◌<◌, length, arith, refl}
use Rattle.codec_payload_queue.proofs.SearchLemmas.{none_below}
use Rattle.codec_payload_queue.proofs.tiers.TieredQueue.place_inside.Goals as goal

pub returns-clause-point : goal.returns-clause-point
returns-clause-point g c =
    let items = c.args.self.now.items in
    let some : 0 < length items = c.in-Some.ensures.variant.0 refl in
    let high = none_below g.T.Numbered.number_of items c.args.number 0 c.in-Some.item.now c.requires some c.in-Some.ensures.value (omega (arith, c.number.ensures, c.if-number.true)) in
    ((λ i d from l. absurd (omega (arith, l))), high)
