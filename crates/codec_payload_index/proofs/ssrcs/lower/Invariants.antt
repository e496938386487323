use Rattle.std.proofs.Common.{◌≡◌, ◌++◌, drop, map, take}
use Rattle.codec_payload_index.specs.Ssrcs.{lowered}
use Rattle.codec_payload_index.proofs.ssrcs.lower.Given as goal

-- the entries so far are lowered
abbrev pub invariant-loop-at : goal.invariant-loop-at
invariant-loop-at l = l.entries.items ≡ map (lowered l.place) (take l.at l.initial.entries.items) ++ drop l.at l.initial.entries.items
