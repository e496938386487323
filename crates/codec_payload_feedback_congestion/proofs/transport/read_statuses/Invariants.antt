use Rattle.std.proofs.Common.{◌≡◌, drop}
use Rattle.codec_payload_feedback_congestion.specs.Feedback.{statuses_at, with_statuses}
use Rattle.codec_payload_feedback_congestion.proofs.transport.read_statuses.Given as goal

abbrev pub invariant-loop-symbol : goal.invariant-loop-symbol
invariant-loop-symbol l = with_statuses l.statuses.items (statuses_at l.time (drop l.symbol-index l.symbols) l.rest) ≡ statuses_at l.fn.reference l.symbols l.bytes
