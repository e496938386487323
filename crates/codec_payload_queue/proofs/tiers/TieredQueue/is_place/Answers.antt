use Rattle.std.proofs.Common.{◌-◌, ◌<◌, ◌≤◌, length, arith}
use Rattle.std.proofs.lemmas.Bool.Decides.{nat_tests}
use Rattle.codec_payload_queue.proofs.SearchLemmas.{all_below, none_below}
use Rattle.codec_payload_queue.proofs.tiers.TieredQueue.is_place.Goals as goal

pub returns-clause-point : goal.returns-clause-point
returns-clause-point g c = λ is.
    let items = c.args.self.now.items in
    let place = c.args.place in
    let inside : place < length items = omega arith in
    let up_to : c.args.number ≤ c.number-2.result = grind (arith, nat_tests, is) in
    let low = all_below g.T.Numbered.number_of items c.args.number (place - 1) c.at.result.now c.requires (omega (arith, inside)) c.at.ensures (omega (arith, c.number.ensures, c.if-number.false)) in
    let high = none_below g.T.Numbered.number_of items c.args.number place c.at-2.result.now c.requires inside c.at-2.ensures (omega (arith, c.number-2.ensures, up_to)) in
    ((λ k d from l. low k d from (omega (arith, l, c.if-place-eq0.false))), high)
