use Rattle.std.proofs.Common.{◌≡◌, ◌≤◌, ◌++◌, ◌-◌, length, take}
use Rattle.codec_payload_jitter.specs.Missing.{absent_between}
use Rattle.codec_payload_jitter.proofs.kept_missing.append_absent.Given as goal

abbrev pub invariant-loop-place : goal.invariant-loop-place
invariant-loop-place g l = record {
  numbers : l.out.items ≡ l.fn.out.items ++ absent_between l.packets l.from l.next;
  above : l.from ≤ l.next;
  below : l.next ≤ l.to;
  kept : take (length l.fn.out.items) l.out.items ≡ l.fn.out.items;
}

abbrev pub decreases-loop-place : goal.decreases-loop-place
decreases-loop-place g l = l.to - l.next
