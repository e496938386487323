use Rattle.std.proofs.Common.{◌≡◌, take}
use Rattle.codec_payload_index.specs.Times.{halved}
use Rattle.codec_payload_index.proofs.times.above.Given as goal

-- the first pairs
abbrev pub invariant-loop-pair : goal.invariant-loop-pair
invariant-loop-pair l = l.higher.items ≡ take l.pair (halved l.level)
