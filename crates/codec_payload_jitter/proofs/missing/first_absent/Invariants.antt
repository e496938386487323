use Rattle.std.proofs.Common.{◌≡◌, ◌-◌}
use Rattle.codec_payload_jitter.specs.Missing.{absent_between}
use Rattle.codec_payload_jitter.proofs.missing.first_absent.Given as goal

abbrev pub invariant-loop-number : goal.invariant-loop-number
invariant-loop-number g l = absent_between l.packets l.number l.to ≡ absent_between l.packets l.from l.to

abbrev pub decreases-loop-number : goal.decreases-loop-number
decreases-loop-number g l = l.to - l.number
