use Rattle.std.proofs.Common.{arith, length, ◌∙◌, sym, rules}
use Rattle.std.proofs.lemmas.Bool.{eqb-true}
use Rattle.codec_payload_fec_port.proofs.ClearedLemmas.{empty_is, cleared_last, cleared_part}
use Rattle.codec_payload_fec_port.proofs.cleared.put_cleared.Goals as goal

pub returns-then-is_empty : goal.returns-then-is_empty
returns-then-is_empty c =
    empty_is c.loop-left.left c.args.late.now c.args.form c.loop-left.rest.now c.loop-left.out.items _ (eqb-true (length c.loop-left.rest.now) 0 (sym c.is_empty.ensures ∙ c.if-is_empty.true)) c.loop-left.invariant

pub loop-left-preserved : goal.loop-left-preserved
loop-left-preserved c =
    cleared_part c.loop-left.left c.args.late.now c.args.form c.loop-left.rest.now c.in_ok-rest.rest.now c.loop-left.out.items c.put_front.new.out.items _ c.loop-left-test.true (search rules) (search rules) c.loop-left.invariant

pub returns : goal.returns
returns c =
    let all = cleared_last c.loop-left.left c.args.late.now c.args.form c.loop-left.rest.now c.loop-left.out.items _ c.loop-left-test.false c.loop-left.invariant in
    grind (arith, all)
