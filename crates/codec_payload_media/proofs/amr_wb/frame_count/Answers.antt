use Rattle.std.proofs.Common.{ℕ, List, sym, ◌∙◌, arith}
use Rattle.codec_payload_media.specs.AmrWbFrames.{Frame, frame_at, frame_of}
use Rattle.codec_payload_media.proofs.AmrWbLemmas.{frame_shorter}
use Rattle.codec_payload_media.proofs.ItemLemmas.{count_more, count_fault, count_none, no_bytes, some_bytes}
use Rattle.codec_payload_media.proofs.amr_wb.frame_count.Goals as goal

pub returns-in-Err : goal.returns-in-Err
returns-in-Err c = sym (count_fault frame_at frame_shorter c.loop-rest.count c.loop-rest.rest.now c.in-Err.fault (some_bytes c.loop-rest.rest.now c.loop-rest-test.ensures) (sym c.in-Err.ensures)) ∙ c.loop-rest.invariant.same

pub loop-rest-preserved : goal.loop-rest-preserved
loop-rest-preserved c =
    let x : Frame × List ℕ = (frame_of c.in-Ok.field-0-0, c.in-Ok.others.now) in
    let s = frame_shorter c.loop-rest.rest.now x (sym c.in-Ok.ensures) in
    record {
      within = omega (arith, s, c.loop-rest.invariant.within);
      same = sym (count_more frame_at frame_shorter c.loop-rest.count c.loop-rest.rest.now x (omega (arith, s)) (sym c.in-Ok.ensures)) ∙ c.loop-rest.invariant.same;
    }

pub returns : goal.returns
returns c = sym (count_none frame_at frame_shorter c.loop-rest.count c.loop-rest.rest.now (no_bytes c.loop-rest.rest.now c.loop-rest-test.ensures)) ∙ c.loop-rest.invariant.same
