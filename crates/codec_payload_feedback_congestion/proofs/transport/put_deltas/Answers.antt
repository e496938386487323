use Rattle.std.proofs.Common.{None, get_or, arith, refl, rules}
use Rattle.codec_payload_feedback_congestion.proofs.FeedbackLemmas.{deltas_end, deltas_step}
use Rattle.codec_payload_feedback_congestion.proofs.transport.put_deltas.Goals as goal

pub loop-status-preserved : goal.loop-status-preserved
loop-status-preserved c =
    deltas_step c.loop-status.time c.args.statuses.now c.loop-status.status-index (get_or c.args.statuses.now c.loop-status.status-index None) c.loop-status.out.items c.write_delta.new.out.items _ c.time_for-time.result
    (omega arith) refl (search rules) (search rules) c.loop-status.invariant

pub returns : goal.returns
returns c = deltas_end c.loop-status.time c.args.statuses.now c.loop-status.status-index c.loop-status.out.items _ (omega arith) c.loop-status.invariant
