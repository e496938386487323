use Rattle.std.proofs.Common.{◌≡◌, ◌≤◌, ◌+◌, length}
use Rattle.std.specs.VecDeque.{deque_capacity}
use Rattle.codec_payload_sending_history.specs.Histories.{raised}
use Rattle.codec_payload_sending_history.specs.Packets.{packets_of}
use Rattle.codec_payload_sending_history.proofs.retransmission.raise.Given as goal

abbrev pub invariant-loop : goal.invariant-loop
invariant-loop l = record {
  items : packets_of l.packets.items ≡ raised l.limit l.counter (packets_of l.initial.packets.items);
  few : length l.packets.items ≤ l.limit;
  grown : length l.packets.items ≤ length l.initial.packets.items + l.counter;
  some : 1 ≤ l.counter → 1 ≤ length l.packets.items;
  room : deque_capacity l.packets ≡ deque_capacity l.initial.packets;
}
