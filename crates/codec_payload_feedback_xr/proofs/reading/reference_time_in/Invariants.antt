use Rattle.std.proofs.Common.{◌≡◌, length}
use Rattle.codec_payload_feedback_xr.specs.Xr.{reference_time_in}
use Rattle.codec_payload_feedback_xr.specs.XrReading.{blocks_in}
use Rattle.codec_payload_feedback_xr.proofs.reading.reference_time_in.Given as goal

-- no block before those that are left has a reference time
abbrev pub invariant-loop-block : goal.invariant-loop-block
invariant-loop-block l = reference_time_in (blocks_in l.rest) ≡ reference_time_in (blocks_in l.bytes)

abbrev pub decreases-loop-block : goal.decreases-loop-block
decreases-loop-block l = length l.rest
