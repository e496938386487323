use Rattle.std.proofs.Common.{◌≡◌, ◌++◌, length}
use Rattle.codec_payload_fec_port.specs.Cleared.{cleared_in}
use Rattle.codec_payload_fec_port.proofs.cleared.put_cleared.Given as goal

-- what is written and what is left are all
abbrev pub invariant-loop-left : goal.invariant-loop-left
invariant-loop-left l = l.out.items ++ cleared_in l.left l.late l.form l.rest ≡ l.initial.out.items ++ cleared_in (length l.bytes) l.late l.form l.bytes

abbrev pub decreases-loop-left : goal.decreases-loop-left
decreases-loop-left l = l.left
