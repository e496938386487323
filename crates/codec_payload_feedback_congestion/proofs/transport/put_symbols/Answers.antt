use Rattle.std.proofs.Common.{None, get_or, arith, refl, rules}
use Rattle.codec_payload_feedback_congestion.proofs.FeedbackLemmas.{symbols_end, symbols_step}
use Rattle.codec_payload_feedback_congestion.proofs.transport.put_symbols.Goals as goal

pub loop-status-preserved : goal.loop-status-preserved
loop-status-preserved c =
    symbols_step c.loop-status.time c.args.statuses.now c.loop-status.status-index (get_or c.args.statuses.now c.loop-status.status-index None) c.loop-status.symbols.items c.push.new.self.items _ c.symbol_for.result c.time_for-time.result
    (omega arith) refl (search rules) (search rules) (search rules) c.loop-status.invariant

pub returns : goal.returns
returns c = symbols_end c.loop-status.time c.args.statuses.now c.loop-status.status-index c.loop-status.symbols.items _ (omega arith) c.loop-status.invariant
