use Rattle.std.proofs.Common.{◌≡◌, ◌≤◌, ◌++◌}
use Rattle.codec_payload_bandwidth_path.specs.Departures.{departed_in, unknown_fates}
use Rattle.codec_payload_bandwidth_path.proofs.departures.Departures.append_unknown.Given as goal

-- the fates so far, and those of the packets that are left, are all fates
abbrev pub invariant-loop-index : goal.invariant-loop-index
invariant-loop-index l = record {
  all : l.fates.items ++ unknown_fates (departed_in l.index l.to l.self) ≡ l.fn.fates.items ++ unknown_fates (departed_in l.fn.from l.fn.to l.self);
  above : l.fn.from ≤ l.index;
}
