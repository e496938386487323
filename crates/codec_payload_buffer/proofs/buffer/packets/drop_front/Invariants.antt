use Rattle.std.proofs.Common.{◌≡◌, drop}
use Rattle.codec_payload_buffer.proofs.buffer.packets.drop_front.Given as goal

-- the items that remain of these packets are the items that remain of all
abbrev pub invariant-loop-left : goal.invariant-loop-left
invariant-loop-left l = drop l.left l.packets.items ≡ drop l.count l.initial.packets.items

abbrev pub decreases-loop-left : goal.decreases-loop-left
decreases-loop-left l = l.left
