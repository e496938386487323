use Rattle.std.proofs.Common.{◌≡◌, ◌≤◌, ◌+◌, length}
use Rattle.std.specs.VecDeque.{deque_capacity}
use Rattle.codec_payload_numbers.specs.NotedTimes.{skipped}
use Rattle.codec_payload_numbers.proofs.noted_times.skip.Given as goal

abbrev pub invariant-loop : goal.invariant-loop
invariant-loop l = record {
  times : l.times.items ≡ skipped l.most l.counter l.initial.times.items;
  few : length l.times.items ≤ length l.initial.times.items + l.counter;
  room : deque_capacity l.initial.times ≤ deque_capacity l.times;
}
