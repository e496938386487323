use Rattle.std.proofs.Common.{◌≡◌, drop}
use Rattle.codec_payload_feedback_requests.specs.NackSchedule.{numbers_of}
use Rattle.codec_payload_feedback_requests.proofs.nack.are_numbers_of.Given as goal

-- if the rest has the numbers that are left, all are the same
abbrev pub invariant-loop-number : goal.invariant-loop-number
invariant-loop-number l = numbers_of l.rest ≡ drop l.number-index l.missing → numbers_of l.pending ≡ l.missing
