use Rattle.std.proofs.Common.{◌≡◌, ◌∙◌, ◌<◌, List, [], ◌∷◌, ◌++◌, ap, arith, length, map}
use Rattle.std.proofs.lemmas.Bool.Decides.{nat_tests}
use Rattle.std.proofs.lemmas.List.{map-append}
use Rattle.codec_payload_feedback_ccfb.specs.Ccfb.{Report, report_of}
use Rattle.codec_payload_feedback_ccfb.specs.CcfbReading.{reports_at, with_reports}
use Rattle.codec_payload_feedback_ccfb.proofs.CcfbLemmas.{block_shorter, read_fault, read_more, read_none}
use Rattle.codec_payload_feedback_ccfb.proofs.reading.read_blocks.Goals as goal

pub returns-in-Err : goal.returns-in-Err
returns-in-Err c =
    let some : 0 < length c.loop-rest.rest.now = grind (arith, nat_tests, c.is_empty.ensures, c.loop-rest-test.true) in
    read_fault c.in-Err.error (map report_of c.loop-rest.reports.items) c.loop-rest.rest.now (reports_at c.args.bytes.now) c.in-Err.ensures some c.loop-rest.invariant

pub loop-rest-smaller : goal.loop-rest-smaller
loop-rest-smaller c =
    let some : 0 < length c.loop-rest.rest.now = grind (arith, nat_tests, c.is_empty.ensures, c.loop-rest-test.true) in
    block_shorter c.loop-rest.rest.now (report_of c.in-Ok.block.0, c.in-Ok.block.1.now) c.in-Ok.ensures some

pub loop-rest-preserved : goal.loop-rest-preserved
loop-rest-preserved c =
    let some : 0 < length c.loop-rest.rest.now = grind (arith, nat_tests, c.is_empty.ensures, c.loop-rest-test.true) in
    let one : Report = report_of c.in-Ok.block.0 in
    let all : map report_of c.push.new.self.items ≡ map report_of c.loop-rest.reports.items ++ one ∷ [] = ap (map report_of) c.in-Ok-push.ensures.items ∙ map-append report_of c.loop-rest.reports.items (c.in-Ok.block.0 ∷ []) in
    ap (λ (rs : List Report). with_reports rs (reports_at c.in-Ok.block.1.now)) all
    ∙ read_more (map report_of c.loop-rest.reports.items) c.loop-rest.rest.now c.in-Ok.block.1.now one (reports_at c.args.bytes.now) c.in-Ok.ensures some c.loop-rest.invariant

pub returns : goal.returns
returns c =
    let none : length c.loop-rest.rest.now ≡ 0 = grind (arith, nat_tests, c.is_empty.ensures, c.loop-rest-test.false) in
    read_none (map report_of c.loop-rest.reports.items) c.loop-rest.rest.now (reports_at c.args.bytes.now) none c.loop-rest.invariant
