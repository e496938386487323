use Rattle.std.proofs.Common.{◌≡◌, length}
use Rattle.codec_payload_feedback_xr.specs.Xr.{dlrr_in}
use Rattle.codec_payload_feedback_xr.specs.XrReading.{blocks_in}
use Rattle.codec_payload_feedback_xr.proofs.reading.dlrr_in.Given as goal

-- no block before those that are left has an answer
abbrev pub invariant-loop-block : goal.invariant-loop-block
invariant-loop-block l = dlrr_in l.ssrc (blocks_in l.rest) ≡ dlrr_in l.ssrc (blocks_in l.bytes)

abbrev pub decreases-loop-block : goal.decreases-loop-block
decreases-loop-block l = length l.rest
