use Rattle.std.proofs.Common.{◌≡◌}
use Rattle.codec_payload_jitter.specs.Missing.{missing_numbers}
use Rattle.codec_payload_session_requests.specs.Late.{missing_after}
use Rattle.codec_payload_session_requests.proofs.late.follow_missing.Given as goal

-- the numbers that come, after those so far
abbrev pub invariant-loop-number : goal.invariant-loop-number
invariant-loop-number l =
    goal.iterator-loop-number.can_next l.number-iterator
    × goal.iterator-loop-number.is_finite l.number-iterator
    × (missing_after l.now.0 l.number-iterator l.late ≡ missing_after l.now.0 (missing_numbers l.receiver.packets 64) l.initial.late)
