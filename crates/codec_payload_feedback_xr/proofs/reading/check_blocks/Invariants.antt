use Rattle.std.proofs.Common.{◌≡◌, length}
use Rattle.codec_payload_feedback_xr.specs.XrReading.{fault_in}
use Rattle.codec_payload_feedback_xr.proofs.reading.check_blocks.Given as goal

-- the blocks before those that are left are whole
abbrev pub invariant-loop-rest : goal.invariant-loop-rest
invariant-loop-rest l = fault_in l.rest ≡ fault_in l.bytes

abbrev pub decreases-loop-rest : goal.decreases-loop-rest
decreases-loop-rest l = length l.rest
