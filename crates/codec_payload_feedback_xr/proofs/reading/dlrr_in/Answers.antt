use Rattle.std.proofs.Common.{◌≡◌, ◌∙◌, List, ap, sym, false, true}
use Rattle.std.specs.Option.{is_some}
use Rattle.codec_payload_feedback_xr.specs.Xr.{Block, dlrr_in, or_else}
use Rattle.codec_payload_feedback_xr.specs.XrReading.{block_of, blocks_in}
use Rattle.codec_payload_feedback_xr.proofs.XrLemmas.{block_shorter, blocks_end, dlrr_front, or_none, or_some}
use Rattle.codec_payload_feedback_xr.proofs.reading.dlrr_in.Goals as goal

pub returns-then-is_some : goal.returns-then-is_some
returns-then-is_some c =
    let later = dlrr_in c.args.ssrc (blocks_in c.in-Ok.others.now) in
    let found : is_some c.dlrr_of-answer.result ≡ true = sym c.if-is_some.ensures in
    sym (or_some c.dlrr_of-answer.result later found)
    ∙ ap (λ o. or_else o later) c.dlrr_of-answer.ensures
    ∙ sym (dlrr_front c.args.ssrc c.loop-block.rest.now c.in-Ok.others.now (block_of c.in-Ok.block) (sym c.in-Ok.ensures))
    ∙ c.loop-block.invariant

pub loop-block-smaller : goal.loop-block-smaller
loop-block-smaller c = block_shorter c.loop-block.rest.now (block_of c.in-Ok.block, c.in-Ok.others.now) (sym c.in-Ok.ensures)

pub loop-block-preserved : goal.loop-block-preserved
loop-block-preserved c =
    let later = dlrr_in c.args.ssrc (blocks_in c.in-Ok.others.now) in
    let none : is_some c.dlrr_of-answer.result ≡ false = sym c.if-is_some.ensures in
    sym (or_none c.dlrr_of-answer.result later none)
    ∙ ap (λ o. or_else o later) c.dlrr_of-answer.ensures
    ∙ sym (dlrr_front c.args.ssrc c.loop-block.rest.now c.in-Ok.others.now (block_of c.in-Ok.block) (sym c.in-Ok.ensures))
    ∙ c.loop-block.invariant

pub returns : goal.returns
returns c = ap (λ (bs : List Block). dlrr_in c.args.ssrc bs) (sym (blocks_end c.loop-block.rest.now c.in_default.field-0 (sym c.in_default.ensures))) ∙ c.loop-block.invariant
