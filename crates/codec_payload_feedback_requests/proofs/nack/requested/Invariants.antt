use Rattle.std.proofs.Common.{◌≡◌, drop}
use Rattle.codec_payload_feedback_requests.specs.NackSchedule.{answer_of}
use Rattle.codec_payload_feedback_requests.proofs.nack.requested.Given as goal

abbrev pub invariant-loop-request : goal.invariant-loop-request
invariant-loop-request l = answer_of l.number (drop l.request-index l.pending) ≡ answer_of l.number l.pending
