use Rattle.std.proofs.Common.{◌≡◌, ◌++◌, drop, map}
use Rattle.codec_payload_c_path.specs.Ccfb.{metric_given}
use Rattle.codec_payload_c_path.proofs.ccfb.metrics_given.Given as goal

-- the metrics so far, and those of the packets that are left, are all metrics
abbrev pub invariant-loop-packet : goal.invariant-loop-packet
invariant-loop-packet l = l.metrics.items ++ map metric_given (drop l.packet-index l.packets) ≡ map metric_given l.packets
