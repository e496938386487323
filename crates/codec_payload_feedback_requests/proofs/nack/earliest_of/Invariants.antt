use Rattle.std.proofs.Common.{◌≡◌, drop}
use Rattle.codec_payload_feedback_requests.specs.NackSchedule.{earliest_of}
use Rattle.codec_payload_feedback_requests.specs.Requests.{earlier}
use Rattle.codec_payload_feedback_requests.proofs.nack.earliest_of.Given as goal

abbrev pub invariant-loop-request : goal.invariant-loop-request
invariant-loop-request l = earlier l.earliest (earliest_of (drop l.request-index l.pending)) ≡ earliest_of l.pending
