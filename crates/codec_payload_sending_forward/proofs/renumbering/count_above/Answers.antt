use Rattle.std.proofs.Common.{rules, ◌+◌, ◌-◌, ◌/◌, arith}
use Rattle.codec_payload_sending_forward.proofs.NumberLemmas.{above_few}
use Rattle.codec_payload_sending_forward.proofs.SearchLemmas.{above_here, above_past}
use Rattle.codec_payload_sending_forward.proofs.renumbering.count_above.Goals as goal

pub loop-low-init : goal.loop-low-init
loop-low-init c =
    let few = above_few c.args.number c.args.numbers.now.items in
    (omega arith, omega (arith, few, c.len-high.ensures), omega (arith, c.len-high.ensures))

pub loop-low-preserved-then-index-number : goal.loop-low-preserved-then-index-number
loop-low-preserved-then-index-number c =
    let inv = c.loop-low.invariant in
    let middle = c.loop-low.low + (c.loop-low.high - c.loop-low.low) / 2 in
    let l = above_past c.args.number c.index.result.now middle c.args.numbers.now.items (omega (arith, inv, c.loop-low-test.true)) c.requires (search rules) (omega (arith, c.if-index-number.true)) in
    (omega (arith, l), omega (arith, inv), omega (arith, inv))

pub loop-low-preserved : goal.loop-low-preserved
loop-low-preserved c =
    let inv = c.loop-low.invariant in
    let middle = c.loop-low.low + (c.loop-low.high - c.loop-low.low) / 2 in
    let l = above_here c.args.number c.index.result.now middle c.args.numbers.now.items (omega (arith, inv, c.loop-low-test.true)) c.requires (search rules) (omega (arith, c.if-index-number.false)) in
    (omega (arith, inv), omega (arith, l), omega (arith, inv, c.loop-low-test.true))
