use Rattle.std.proofs.Common.{◌≡◌, ◌++◌, ◌-◌, ℕ, drop, length, take, true}
use Rattle.codec_payload_feedback_requests.specs.NackSchedule.{are_rising, followed, is_past, numbers_of, refreshed_with, request_of, rising_after}
use Rattle.codec_payload_feedback_requests.proofs.nack.merge.Given as goal

abbrev pub invariant-loop-number : goal.invariant-loop-number
invariant-loop-number l = record {
  all :
      l.out.items ++ refreshed_with l.settings l.now (take (l.settings.capacity - length l.out.items) (rising_after l.last (drop l.number-index l.missing))) l.pending
      ≡ refreshed_with l.settings l.now (followed l.settings l.missing) l.pending;
  same : (m : ℕ) → is_past l.last m ≡ true → request_of m l.rest ≡ request_of m l.pending;
  rising : are_rising (numbers_of l.rest) ≡ true;
}
