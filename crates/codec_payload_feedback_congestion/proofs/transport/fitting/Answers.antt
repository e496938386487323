use Rattle.std.proofs.Common.{◌≡◌, ◌<◌, ◌≤◌, ◌-◌, None, get_or, length, arith}
use Rattle.codec_payload_feedback_congestion.specs.Feedback.{symbol_for}
use Rattle.codec_payload_feedback_congestion.proofs.FeedbackLemmas.{ends_empty, ends_full, ends_unfit, fitting_step, length_others}
use Rattle.codec_payload_feedback_congestion.proofs.transport.fitting.Goals as goal
use Rattle.codec_payload_feedback_congestion.proofs.transport.fitting.Goals.{then-count-most-via-then-count-most, then-count-most-via-else-count-most+then-symbol_for-gt2}

pub returns-then-count-most : goal.returns-then-count-most
returns-then-count-most c =
    elim c.then-count-most.branch [
      | then-count-most-via-then-count-most w ↦ ends_full c.args.most c.loop-rest.count c.loop-rest.time _ c.loop-rest.rest.now w.if-count-most.true c.loop-rest.invariant.same
      | then-count-most-via-else-count-most+then-symbol_for-gt2 w ↦
          let big : 2 < symbol_for c.loop-rest.time (get_or c.loop-rest.rest.now 0 None) = omega (arith, w.symbol_for.ensures, w.if-symbol_for-gt2.true) in
          ends_unfit (c.args.most - c.loop-rest.count) c.loop-rest.count c.loop-rest.time _ c.loop-rest.rest.now (omega arith) big c.loop-rest.invariant.same
    ]

pub loop-rest-preserved : goal.loop-rest-preserved
loop-rest-preserved c =
    let fits : symbol_for c.loop-rest.time (get_or c.loop-rest.rest.now 0 None) ≤ 2 = omega (arith, c.symbol_for.ensures, c.if-symbol_for-gt2.false) in
    record {
      within = omega arith;
      here = omega (arith, length_others c.loop-rest.rest.now (omega arith), c.loop-rest.invariant.here);
      same = fitting_step c.args.most c.loop-rest.count c.loop-rest.time c.time_for-time.result _ c.loop-rest.rest.now (omega arith) (omega arith) fits c.time_for-time.ensures c.loop-rest.invariant.same;
    }

pub returns : goal.returns
returns c = ends_empty (c.args.most - c.loop-rest.count) c.loop-rest.count c.loop-rest.time _ c.loop-rest.rest.now (omega arith) c.loop-rest.invariant.same
