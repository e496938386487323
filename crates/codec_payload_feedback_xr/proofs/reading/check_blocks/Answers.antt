use Rattle.std.proofs.Common.{◌≡◌, ◌∙◌, ◌<◌, length, sym, ap, arith}
use Rattle.std.proofs.lemmas.Bool.Decides.{nat_tests}
use Rattle.codec_payload_feedback_xr.specs.XrReading.{Walk, block_of}
use Rattle.codec_payload_feedback_xr.proofs.XrLemmas.{block_shorter, fault_there, no_fault_left, walk_past}
use Rattle.codec_payload_feedback_xr.proofs.reading.check_blocks.Goals as goal

pub loop-rest-smaller : goal.loop-rest-smaller
loop-rest-smaller c = block_shorter c.loop-rest.rest.now (block_of c.in-Ok.field-0-0, c.in-Ok.others.now) (sym c.in-Ok.ensures)

pub loop-rest-preserved : goal.loop-rest-preserved
loop-rest-preserved c = sym (ap (λ (w : Walk). w.end) (walk_past c.loop-rest.rest.now c.in-Ok.others.now (block_of c.in-Ok.field-0-0) (sym c.in-Ok.ensures))) ∙ c.loop-rest.invariant

pub returns-in-Err : goal.returns-in-Err
returns-in-Err c =
    let some : 0 < length c.loop-rest.rest.now = grind (arith, nat_tests, c.is_empty.ensures, c.loop-rest-test.true) in
    sym (fault_there c.loop-rest.rest.now c.in-Err.fault (sym c.in-Err.ensures) some) ∙ c.loop-rest.invariant

pub returns : goal.returns
returns c =
    let none : length c.loop-rest.rest.now ≡ 0 = grind (arith, nat_tests, c.is_empty.ensures, c.loop-rest-test.false) in
    sym (no_fault_left c.loop-rest.rest.now none) ∙ c.loop-rest.invariant
