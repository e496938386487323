use Rattle.std.proofs.Common.{sym, ◌∙◌, arith}
use Rattle.codec_payload_media.proofs.OpusLemmas.{lengths_step}
use Rattle.codec_payload_media.proofs.opus.read_lengths.Goals as goal

pub loop-preserved : goal.loop-preserved
loop-preserved c = record {
  within = omega (arith, c.loop-test.true, c.loop.invariant.within);
  bound = omega (arith, c.loop.invariant.bound, c.in_ok-length.ensures.most);
  same = sym (lengths_step c.args.count c.loop.counter c.loop.sum c.loop.rest.now (c.in_ok-length.length, c.in_ok-length.others.now) c.loop-test.true (sym c.in_ok-length.ensures.value)) ∙ c.loop.invariant.same;
}
