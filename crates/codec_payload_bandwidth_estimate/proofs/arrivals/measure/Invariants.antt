use Rattle.std.proofs.Common.{◌≡◌, ◌≤◌, ◌*◌, ◌^◌, drop}
use Rattle.codec_payload_bandwidth_estimate.specs.Arrivals.{measure_from, measure_of}
use Rattle.codec_payload_bandwidth_estimate.proofs.arrivals.measure.Given as goal

abbrev pub invariant-loop-one : goal.invariant-loop-one
invariant-loop-one l = record {
  value : measure_from l.newest l.bytes l.span l.busy (drop l.one-index l.latest) ≡ measure_of l.busy l.latest;
  few : l.bytes ≤ l.one-index * 2 ^ 32;
}
