use Rattle.std.proofs.Common.{List, Option, ℕ, sym, subst}
use Rattle.codec_payload_feedback_congestion.specs.Arrivals.{AreTimes}
use Rattle.codec_payload_feedback_congestion.proofs.ArrivalLemmas.{times_drop}
use Rattle.codec_payload_feedback_congestion.proofs.arrivals.ArrivalLog.unreported.Goals as goal

pub returns-clause-times : goal.returns-clause-times
returns-clause-times c = subst AreTimes (sym c.from.ensures) (times_drop c.self.inside.reported c.self.inside.slots c.self.invariant.times)
