use Rattle.std.proofs.Common.{◌≡◌, slice_get}
use Rattle.codec_payload_feedback_transport.specs.Messages.{messages_left}
use Rattle.codec_payload_c_packets.proofs.congestion.nth.Given as goal

abbrev pub invariant-loop-message : goal.invariant-loop-message
invariant-loop-message l = slice_get (messages_left l.message-iterator) l.left ≡ slice_get (messages_left l.fn.messages) l.index
