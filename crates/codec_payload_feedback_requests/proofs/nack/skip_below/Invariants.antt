use Rattle.std.proofs.Common.{◌≡◌, length}
use Rattle.codec_payload_feedback_requests.specs.NackSchedule.{skipped_below}
use Rattle.codec_payload_feedback_requests.proofs.nack.skip_below.Given as goal

abbrev pub invariant-loop-rest : goal.invariant-loop-rest
invariant-loop-rest l = skipped_below l.number l.rest ≡ skipped_below l.number l.fn.pending

abbrev pub decreases-loop-rest : goal.decreases-loop-rest
decreases-loop-rest l = length l.rest
