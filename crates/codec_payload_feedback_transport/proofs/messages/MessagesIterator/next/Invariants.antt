use Rattle.std.proofs.Common.{◌≡◌, length}
use Rattle.codec_payload_rtcp.specs.RtcpReading.{packets_left}
use Rattle.codec_payload_feedback_transport.specs.Messages.{messages_in, messages_left, type_of_kind}
use Rattle.codec_payload_feedback_transport.proofs.messages.MessagesIterator.next.Given as goal

-- packets so far had no message
abbrev pub invariant-loop-packet : goal.invariant-loop-packet
invariant-loop-packet l = record {
  same : l.self-inside.kind ≡ l.fn.self.kind;
  left : messages_in (type_of_kind l.self-inside.kind) (packets_left l.self-inside.packets) ≡ messages_left l.fn.self;
}

abbrev pub decreases-loop-packet : goal.decreases-loop-packet
decreases-loop-packet l = length (packets_left l.self-inside.packets)
