use Rattle.std.proofs.Common.{◌≡◌, ◌++◌, ◌∷◌, [], get_or, refl, sym, arith, rules}
use Rattle.codec_payload_feedback_congestion.proofs.ReadingLemmas.{status_fault, status_step, statuses_done}
use Rattle.codec_payload_feedback_congestion.proofs.transport.read_statuses.Goals as goal

pub returns-in-Err : goal.returns-in-Err
returns-in-Err c =
    status_fault c.loop-symbol.time (get_or c.args.symbols.now c.loop-symbol.symbol-index 0) c.loop-symbol.symbol-index c.args.symbols.now c.loop-symbol.rest.now c.in-Err.fault c.loop-symbol.statuses.items _ (omega arith) refl
    (sym c.in-Err.ensures) c.loop-symbol.invariant

pub loop-symbol-preserved : goal.loop-symbol-preserved
loop-symbol-preserved c =
    let more : c.push.new.self.items ≡ c.loop-symbol.statuses.items ++ c.in-Ok.step.0 ∷ [] = search rules in
    status_step c.loop-symbol.time c.in-Ok.step.1 (get_or c.args.symbols.now c.loop-symbol.symbol-index 0) c.loop-symbol.symbol-index c.args.symbols.now c.loop-symbol.rest.now c.in-Ok.step.2.now c.in-Ok.step.0 c.loop-symbol.statuses.items c.push.new.self.items _
    (omega arith) refl (sym c.in-Ok.ensures) more c.loop-symbol.invariant

pub returns : goal.returns
returns c = statuses_done c.loop-symbol.time c.loop-symbol.symbol-index c.args.symbols.now c.loop-symbol.rest.now c.loop-symbol.statuses.items _ (omega arith) c.loop-symbol.invariant
