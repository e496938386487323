use Rattle.std.proofs.Common.{◌≡◌, suc, ◌+◌, ◌-◌, ◌*◌, ◌<◌, length, sym, ◌∙◌, arith}
use Rattle.codec_payload_red.proofs.DecoderLoopLemmas.{some_none, some_one, some_last}
use Rattle.codec_payload_red.proofs.red.blocks.blocks_are_whole.Goals as goal

pub returns-in_default : goal.returns-in_default
returns-in_default c =
    let k : c.args.count - c.loop.counter ≡ suc (c.args.count - (c.loop.counter + 1)) = omega arith in
    sym (sym (rw k at c.loop.invariant.same) ∙ some_none (c.args.count - (c.loop.counter + 1)) c.loop.heads.now c.loop.rest.now c.in_default.ensures.found)

pub loop-preserved : goal.loop-preserved
loop-preserved c =
    let k : c.args.count - c.loop.counter ≡ suc (c.args.count - (c.loop.counter + 1)) = omega arith in
    let there : 4 * (c.args.count - c.loop.counter) < length c.loop.heads.now = c.loop.invariant.there in
    record {
      same = rw c.split_at.ensures.back (sym (some_one (c.args.count - (c.loop.counter + 1)) c.loop.heads.now c.loop.rest.now _ _ c.in-Some.ensures.found) ∙ rw k at c.loop.invariant.same);
      there = omega (arith, c.split_at.ensures.back_len);
    }

pub returns : goal.returns
returns c =
    let k : c.args.count - c.loop.counter ≡ 0 = omega arith in
    sym (some_last c.loop.heads.now c.loop.rest.now) ∙ rw k at c.loop.invariant.same
