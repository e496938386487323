use Rattle.std.proofs.Common.{◌≡◌, ◌+◌, length}
use Rattle.std.specs.VecDeque.{deque_capacity}
use Rattle.codec_payload_sending_history.specs.Histories.{lowered}
use Rattle.codec_payload_sending_history.specs.Packets.{packets_of}
use Rattle.codec_payload_sending_history.proofs.retransmission.lower.Given as goal

abbrev pub invariant-loop : goal.invariant-loop
invariant-loop l = record {
  items : packets_of l.packets.items ≡ lowered l.counter (packets_of l.initial.packets.items);
  len : length l.packets.items ≡ length l.initial.packets.items + l.counter;
  room : deque_capacity l.packets ≡ deque_capacity l.initial.packets;
}
