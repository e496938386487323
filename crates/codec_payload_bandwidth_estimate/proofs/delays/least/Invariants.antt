use Rattle.std.proofs.Common.{◌≡◌, drop}
use Rattle.codec_payload_bandwidth_estimate.specs.Delays.{least_from, least_of}
use Rattle.codec_payload_bandwidth_estimate.proofs.delays.least.Given as goal

abbrev pub invariant-loop-index : goal.invariant-loop-index
invariant-loop-index l = least_from l.index l.newest l.least (drop l.index l.latest) ≡ least_of l.latest
