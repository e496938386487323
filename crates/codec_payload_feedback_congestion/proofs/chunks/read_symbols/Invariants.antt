use Rattle.std.proofs.Common.{◌≡◌, ◌≤◌, ◌-◌, length}
use Rattle.codec_payload_feedback_congestion.specs.Chunks.{symbols_at, with_symbols}
use Rattle.codec_payload_feedback_congestion.proofs.chunks.read_symbols.Given as goal

abbrev pub invariant-loop-rest : goal.invariant-loop-rest
invariant-loop-rest l = record {
  few : length l.symbols.items ≤ l.count;
  same : with_symbols l.symbols.items (symbols_at (l.count - length l.symbols.items) l.rest) ≡ symbols_at l.count l.bytes;
}

abbrev pub decreases-loop-rest : goal.decreases-loop-rest
decreases-loop-rest l = length l.rest
