use Rattle.std.proofs.Common.{◌≡◌, ◌++◌, drop, length, map, take}
use Rattle.codec_payload_c_path.specs.Ccfb.{metric_told}
use Rattle.codec_payload_c_path.proofs.ccfb.put_metrics.Given as goal

-- the packets so far, and those of the metrics that are left, are all packets; the elements after them are as they were
abbrev pub invariant-loop-metric : goal.invariant-loop-metric
invariant-loop-metric l = record {
  place : l.place ≡ l.metric-index;
  len : length l.packets ≡ length l.fn.packets;
  put : take l.place l.packets ++ map metric_told (drop l.metric-index l.metrics) ≡ map metric_told l.metrics;
  rest : drop l.place l.packets ≡ drop l.place l.fn.packets;
}
