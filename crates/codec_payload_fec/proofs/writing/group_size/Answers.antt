use Rattle.std.proofs.Common.{◌≡◌, refl, ◌∙◌, arith}
use Rattle.codec_payload_fec.proofs.GroupLemmas.{group_full, size_break, size_end, size_is, size_more}
use Rattle.codec_payload_fec.proofs.writing.group_size.Goals as goal

pub loop-size-init : goal.loop-size-init
loop-size-init c = (refl, omega arith)

pub returns-then-size-packets-clause-value : goal.returns-then-size-packets-clause-value
returns-then-size-packets-clause-value c =
    size_is c.args.packets.now _ c.number_of-base.result c.loop-size.size c.requires c.number_of-base.ensures c.loop-size.invariant.0 (size_end c.args.packets.now c.number_of-base.result c.loop-size.size c.if-size-packets.true)

pub returns-then-not-has_number-clause-value : goal.returns-then-not-has_number-clause-value
returns-then-not-has_number-clause-value c =
    size_is c.args.packets.now _ c.number_of-base.result c.loop-size.size c.requires c.number_of-base.ensures c.loop-size.invariant.0
    (size_break c.args.packets.now _ c.number_of-base.result c.loop-size.size c.loop-size-test.true c.if-size-packets.false c.if-not-has_number.ensures)

pub loop-size-preserved : goal.loop-size-preserved
loop-size-preserved c =
    (c.loop-size.invariant.0 ∙ size_more c.args.packets.now _ c.number_of-base.result c.loop-size.size c.loop-size-test.true c.if-size-packets.false c.if-not-has_number.ensures, omega arith)

pub returns-clause-value : goal.returns-clause-value
returns-clause-value c =
    let all : 48 ≡ c.loop-size.size = omega arith in
    all ∙ size_is c.args.packets.now _ c.number_of-base.result c.loop-size.size c.requires c.number_of-base.ensures c.loop-size.invariant.0 (group_full c.number_of-base.result c.loop-size.size _ c.loop-size-test.false)
