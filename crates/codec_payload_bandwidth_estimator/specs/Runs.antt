-- Runs of calls of an estimator.
use Rattle.std.specs.Prelude.{ℕ, ◌≤◌, List, [], ◌∷◌}
use Rattle.codec_payload_bandwidth_estimator.specs.declared.estimator.PacketFate.{PacketFate}
use Rattle.codec_payload_bandwidth_estimator.specs.Estimates.{Estimate, after_feedback, after_sent, after_tick, new_estimate}

pub data Call : Type 0 where
  feedback : (now round_trip : ℕ) (fates : List PacketFate) → Call
  tick : (now sending wanted : ℕ) → Call
  departs : (now : ℕ) → Call

abbrev pub after_call : Call → Estimate → Estimate
after_call (feedback now round_trip fates) e = after_feedback now round_trip fates e
after_call (tick now sending wanted) e = after_tick now sending wanted e
after_call (departs now) e = after_sent now e

-- after these calls, the latest first
abbrev pub after_calls : List Call → Estimate → Estimate
after_calls [] e = e
after_calls (call ∷ before) e = after_call call (after_calls before e)

-- whatever is called, the estimate is within the bounds with which it began
abbrev pub StaysWithin : Type 0
StaysWithin =
    (now start least most : ℕ) (calls : List Call) → least ≤ most
    → (least ≤ (after_calls calls (new_estimate now start least most)).rate.estimate)
    × ((after_calls calls (new_estimate now start least most)).rate.estimate ≤ most)
