use Rattle.std.proofs.Common.{◌≡◌, ◌++◌, ◌-◌}
use Rattle.codec_payload_jitter.specs.Missing.{absent_between}
use Rattle.codec_payload_jitter.proofs.kept_missing.search.Given as goal

abbrev pub invariant-loop-number : goal.invariant-loop-number
invariant-loop-number g l = l.out.items ++ absent_between l.packets l.next l.to ≡ l.fn.out.items ++ absent_between l.packets l.from l.to

abbrev pub decreases-loop-number : goal.decreases-loop-number
decreases-loop-number g l = l.to - l.next
