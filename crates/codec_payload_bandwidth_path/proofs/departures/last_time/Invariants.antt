use Rattle.std.proofs.Common.{◌≡◌, drop}
use Rattle.codec_payload_bandwidth_path.specs.Departures.{last_time, time_or}
use Rattle.codec_payload_bandwidth_path.proofs.departures.last_time.Given as goal

-- the time among the statuses that are left, or else the last one so far
abbrev pub invariant-loop-status : goal.invariant-loop-status
invariant-loop-status l = time_or (last_time (drop l.status-index l.statuses)) l.last ≡ last_time l.statuses
