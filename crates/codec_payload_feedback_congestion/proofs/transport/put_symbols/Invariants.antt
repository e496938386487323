use Rattle.std.proofs.Common.{◌≡◌, ◌++◌, drop}
use Rattle.codec_payload_feedback_congestion.specs.Feedback.{symbols_of}
use Rattle.codec_payload_feedback_congestion.proofs.transport.put_symbols.Given as goal

abbrev pub invariant-loop-status : goal.invariant-loop-status
invariant-loop-status l = l.symbols.items ++ symbols_of l.time (drop l.status-index l.statuses) ≡ l.fn.symbols.items ++ symbols_of l.fn.from l.statuses
