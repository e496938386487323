use Rattle.std.proofs.Common.{◌≡◌, take, length}
use Rattle.codec_payload_red.proofs.red.sender.Distances.from_list.Given as goal

abbrev pub invariant-loop-i : goal.invariant-loop-i
invariant-loop-i l = record {
  same : take l.i l.list ≡ take l.i l.distances;
  room : length l.list ≡ 8;
}
