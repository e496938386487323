use Rattle.std.proofs.Common.{◌≡◌, ◌∙◌, ap, sym, arith}
use Rattle.std.proofs.lemmas.Bool.Decides.{nat_tests}
use Rattle.codec_payload_feedback_xr.proofs.XrLemmas.{first_after, first_is, sub_blocks_front, sub_blocks_end}
use Rattle.codec_payload_feedback_xr.specs.Xr.{first_for}
use Rattle.codec_payload_feedback_xr.proofs.reading.first_for.Goals as goal

pub returns-then-answer-ssrc : goal.returns-then-answer-ssrc
returns-then-answer-ssrc c =
    let same : c.in-Some.answer.ssrc ≡ c.args.ssrc = grind (arith, nat_tests, c.if-answer-ssrc.true) in
    sym (first_is c.args.ssrc c.loop-answer.rest.now c.in-Some.answer c.in-Some.others.now c.in-Some.ensures same) ∙ c.loop-answer.invariant

pub loop-answer-smaller : goal.loop-answer-smaller
loop-answer-smaller c = (sub_blocks_front c.loop-answer.rest.now c.in-Some.answer c.in-Some.others.now c.in-Some.ensures).1

pub loop-answer-preserved : goal.loop-answer-preserved
loop-answer-preserved c =
    let other : c.in-Some.answer.ssrc ≡ c.args.ssrc → ⊥ = λ same. grind (arith, nat_tests, c.if-answer-ssrc.false, same) in
    sym (first_after c.args.ssrc c.loop-answer.rest.now c.in-Some.answer c.in-Some.others.now c.in-Some.ensures other) ∙ c.loop-answer.invariant

pub returns : goal.returns
returns c = ap (first_for c.args.ssrc) (sym (sub_blocks_end c.loop-answer.rest.now c.in_default.ensures)) ∙ c.loop-answer.invariant
