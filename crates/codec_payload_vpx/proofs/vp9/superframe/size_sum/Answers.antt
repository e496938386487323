use Rattle.std.proofs.Common.{sym, ◌∙◌, arith}
use Rattle.codec_payload_vpx.proofs.SuperframeLemmas.{sum_step, sum_end}
use Rattle.codec_payload_vpx.proofs.vp9.superframe.size_sum.Goals as goal

pub loop-preserved : goal.loop-preserved
loop-preserved c = record {
  within = omega (arith, c.loop-test.true);
  bound = omega (arith, c.loop.invariant.bound, c.from-sum.ensures, c.front_size-size.ensures.small);
  same = sym (sum_step c.args.count c.loop.counter c.args.width c.loop.sum c.from-sum.result c.loop.rest.now c.front_size-size.result.1.now c.loop-test.true (c.from-sum.ensures ∙ c.front_size-size.ensures.size) c.front_size-size.ensures.rest) ∙ c.loop.invariant.same;
}

pub returns : goal.returns
returns c = sym (sum_end c.args.count c.loop.counter c.args.width c.loop.sum c.loop.rest.now (omega (arith, c.loop-test.false))) ∙ c.loop.invariant.same
