use Rattle.std.proofs.Common.{◌≡◌, ◌≤◌, ◌+◌, ◌++◌, length, map, drop, take}
use Rattle.std.specs.Prelude.{vec_len, vec_capacity}
use Rattle.codec_payload_buffer.specs.Held.{held_of}
use Rattle.codec_payload_buffer.specs.Steps.{metas_of}
use Rattle.codec_payload_buffer.proofs.buffer.packets.move_front.Given as goal

abbrev pub invariant-loop-left : goal.invariant-loop-left
invariant-loop-left l = record {
  -- the items that remain of these packets are the items that remain of all
  packets : drop l.left l.packets.items ≡ drop l.count l.initial.packets.items;
  -- the moved metadata, with those still to move, are all of them
  metas : l.metas.items ++ metas_of (map held_of (take l.left l.packets.items)) ≡ l.initial.metas.items ++ metas_of (map held_of (take l.count l.initial.packets.items));
  room : vec_len l.metas + l.left ≤ vec_capacity l.metas;
  within : l.left ≤ length l.packets.items;
}

abbrev pub decreases-loop-left : goal.decreases-loop-left
decreases-loop-left l = l.left
