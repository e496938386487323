use Rattle.std.proofs.Common.{◌≡◌, ◌++◌, drop, take}
use Rattle.codec_payload_feedback_requests.specs.NackSchedule.{tried_in}
use Rattle.codec_payload_feedback_requests.proofs.nack.try_due.Given as goal

abbrev pub invariant-loop-request : goal.invariant-loop-request
invariant-loop-request l =
    l.pending ≡ tried_in l.tries l.retry l.now (take l.request-index l.initial.pending) ++ drop l.request-index l.initial.pending
