use Rattle.std.proofs.Common.{◌≡◌, ◌≤◌, drop, length}
use Rattle.codec_payload_fec.specs.Writing.{group_from, lists_of}
use Rattle.codec_payload_fec.proofs.writing.group_size.Given as goal

-- the packets in front of the place are of the group
abbrev pub invariant-loop-size : goal.invariant-loop-size
invariant-loop-size l = (group_from l.base 1 (drop 1 (lists_of l.packets)) ≡ group_from l.base l.size (drop l.size (lists_of l.packets))) × (l.size ≤ length l.packets)
