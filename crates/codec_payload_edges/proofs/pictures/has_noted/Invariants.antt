use Rattle.std.proofs.Common.{◌≡◌, drop}
use Rattle.codec_payload_edges.specs.Pictures.{has_noted}
use Rattle.codec_payload_edges.proofs.pictures.has_noted.Given as goal

abbrev pub invariant-loop-range : goal.invariant-loop-range
invariant-loop-range l = has_noted l.number (drop l.range-index l.ranges) ≡ has_noted l.number l.ranges
