use Rattle.std.proofs.Common.{◌≡◌, ◌≤◌, ◌+◌, ◌*◌, ◌^◌, drop}
use Rattle.codec_payload_feedback_freezes.specs.Rule.{total}
use Rattle.codec_payload_feedback_freezes.proofs.freezes.total.Given as goal

abbrev pub invariant-loop-duration : goal.invariant-loop-duration
invariant-loop-duration l = (l.total + total (drop l.duration-index l.durations) ≡ total l.durations) × (l.total ≤ l.duration-index * 2 ^ 64)
