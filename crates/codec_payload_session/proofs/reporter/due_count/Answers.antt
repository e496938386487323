use Rattle.std.proofs.Common.{◌∙◌, arith, sym}
use Rattle.codec_payload_session.proofs.ReporterLemmas.{count_none, count_one}
use Rattle.codec_payload_session.proofs.reporter.due_count.Goals.{then-is_due, else-is_due}
use Rattle.codec_payload_session.proofs.reporter.due_count.Goals as goal

pub loop-place-preserved : goal.loop-place-preserved
loop-place-preserved c = elim c.if-is_due.branch [
  | then-is_due w ↦
      record {
        counted = count_one c.args.is_new c.args.streams.now c.loop-place.place c.loop-place.count c.if-is_due.count c.loop-place-test.true (sym c.is_due.ensures ∙ w.if-is_due.true) w.count-is c.loop-place.invariant.counted;
        few = omega (arith, w.count-is, c.loop-place.invariant.few);
      }
  | else-is_due w ↦
      record {
        counted = count_none c.args.is_new c.args.streams.now c.loop-place.place c.loop-place.count c.if-is_due.count c.loop-place-test.true (sym c.is_due.ensures ∙ w.if-is_due.false) w.count-is c.loop-place.invariant.counted;
        few = omega (arith, w.count-is, c.loop-place.invariant.few);
      }
]
