use Rattle.std.proofs.Common.{◌≡◌, ◌∙◌, List, ap, sym, false, true}
use Rattle.std.specs.Option.{is_some}
use Rattle.codec_payload_feedback_xr.specs.Xr.{Block, reference_time_in, or_else}
use Rattle.codec_payload_feedback_xr.specs.XrReading.{block_of, blocks_in}
use Rattle.codec_payload_feedback_xr.proofs.XrLemmas.{block_shorter, blocks_end, reference_time_front, or_none, or_some}
use Rattle.codec_payload_feedback_xr.proofs.reading.reference_time_in.Goals as goal

pub returns-then-is_some : goal.returns-then-is_some
returns-then-is_some c =
    let later = reference_time_in (blocks_in c.in-Ok.others.now) in
    let found : is_some c.reference_time_of-time.result ≡ true = sym c.if-is_some.ensures in
    sym (or_some c.reference_time_of-time.result later found)
    ∙ ap (λ o. or_else o later) c.reference_time_of-time.ensures
    ∙ sym (reference_time_front c.loop-block.rest.now c.in-Ok.others.now (block_of c.in-Ok.block) (sym c.in-Ok.ensures))
    ∙ c.loop-block.invariant

pub loop-block-smaller : goal.loop-block-smaller
loop-block-smaller c = block_shorter c.loop-block.rest.now (block_of c.in-Ok.block, c.in-Ok.others.now) (sym c.in-Ok.ensures)

pub loop-block-preserved : goal.loop-block-preserved
loop-block-preserved c =
    let later = reference_time_in (blocks_in c.in-Ok.others.now) in
    let none : is_some c.reference_time_of-time.result ≡ false = sym c.if-is_some.ensures in
    sym (or_none c.reference_time_of-time.result later none)
    ∙ ap (λ o. or_else o later) c.reference_time_of-time.ensures
    ∙ sym (reference_time_front c.loop-block.rest.now c.in-Ok.others.now (block_of c.in-Ok.block) (sym c.in-Ok.ensures))
    ∙ c.loop-block.invariant

pub returns : goal.returns
returns c = ap (λ (bs : List Block). reference_time_in bs) (sym (blocks_end c.loop-block.rest.now c.in_default.field-0 (sym c.in_default.ensures))) ∙ c.loop-block.invariant
