use Rattle.std.proofs.Common.{◌≡◌, ◌+◌, ◌++◌, drop}
use Rattle.codec_payload_bandwidth_path.specs.Departures.{lost_from}
use Rattle.codec_payload_bandwidth_path.proofs.departures.append_lost_from.Given as goal

-- the numbers so far, and those of the statuses that are left, are all numbers
abbrev pub invariant-loop-place : goal.invariant-loop-place
invariant-loop-place l = l.lost.items ++ lost_from (l.from + l.place) (drop l.place l.statuses) ≡ l.fn.lost.items ++ lost_from l.from l.statuses
