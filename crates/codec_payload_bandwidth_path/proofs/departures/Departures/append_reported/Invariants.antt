use Rattle.std.proofs.Common.{◌≡◌, ◌+◌, ◌++◌, drop}
use Rattle.codec_payload_bandwidth_path.specs.Departures.{departed_in, reported_fates}
use Rattle.codec_payload_bandwidth_path.proofs.departures.Departures.append_reported.Given as goal

-- the fates so far, and those of the packets and statuses that are left, are all fates
abbrev pub invariant-loop-place : goal.invariant-loop-place
invariant-loop-place l =
    l.fates.items ++ reported_fates l.self.clock (departed_in (l.from + l.place) l.self.count l.self) (drop l.place l.statuses)
    ≡ l.fn.fates.items ++ reported_fates l.self.clock (departed_in l.from l.self.count l.self) l.statuses
