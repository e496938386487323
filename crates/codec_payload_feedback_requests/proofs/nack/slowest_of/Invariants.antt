use Rattle.std.proofs.Common.{◌≡◌, drop, max}
use Rattle.codec_payload_feedback_requests.specs.NackSchedule.{slowest_of}
use Rattle.codec_payload_feedback_requests.proofs.nack.slowest_of.Given as goal

abbrev pub invariant-loop-request : goal.invariant-loop-request
invariant-loop-request l = max l.slowest (slowest_of (drop l.request-index l.pending)) ≡ slowest_of l.pending
