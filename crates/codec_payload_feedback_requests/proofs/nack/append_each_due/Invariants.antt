use Rattle.std.proofs.Common.{◌≡◌, ◌++◌, drop, length, map, take}
use Rattle.codec_payload_feedback_requests.specs.NackSchedule.{due_in, low_bits}
use Rattle.codec_payload_feedback_requests.proofs.nack.append_each_due.Given as goal

abbrev pub invariant-loop-request : goal.invariant-loop-request
invariant-loop-request l = record {
  all : l.numbers.items ++ map low_bits (due_in l.now (drop l.request-index l.pending)) ≡ l.fn.numbers.items ++ map low_bits (due_in l.now l.pending);
  kept : take (length l.fn.numbers.items) l.numbers.items ≡ l.fn.numbers.items;
}
