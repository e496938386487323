use Rattle.std.proofs.Common.{rules, ◌+◌, ◌-◌, ◌/◌, arith}
use Rattle.codec_payload_sending_forward.proofs.SearchLemmas.{source_few, source_from, source_hit, source_miss}
use Rattle.codec_payload_sending_forward.proofs.renumbering.source_at.Goals as goal

pub loop-low-init : goal.loop-low-init
loop-low-init c =
    let from = source_from c.args.place c.args.left_out.now.items in
    let few = source_few c.args.place c.args.left_out.now.items in
    (omega arith, omega (arith, c.len-high.ensures), omega (arith, c.len-high.ensures, from), omega (arith, few))

pub loop-low-preserved-then-index-place : goal.loop-low-preserved-then-index-place
loop-low-preserved-then-index-place c =
    let inv = c.loop-low.invariant in
    let middle = c.loop-low.low + (c.loop-low.high - c.loop-low.low) / 2 in
    let hit = source_hit c.args.place c.index.result.now middle c.args.left_out.now.items (omega (arith, inv, c.loop-low-test.true)) (search rules) (omega (arith, c.if-index-place.true, c.len.ensures)) in
    (omega arith, omega (arith, inv, c.loop-low-test.true), hit, omega (arith, inv))

pub loop-low-preserved : goal.loop-low-preserved
loop-low-preserved c =
    let inv = c.loop-low.invariant in
    let middle = c.loop-low.low + (c.loop-low.high - c.loop-low.low) / 2 in
    let miss = source_miss c.args.place c.index.result.now middle c.args.left_out.now.items (omega (arith, inv, c.loop-low-test.true)) c.requires.falls (search rules) (omega (arith, c.if-index-place.false, c.len.ensures)) in
    (omega (arith, inv, c.loop-low-test.true), omega (arith, inv), omega (arith, inv), omega (arith, miss))
