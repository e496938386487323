use Rattle.std.proofs.Common.{length, ◌-◌, ◌≡◌, ◌≤◌, take, replicate, get_or}
use Rattle.codec_payload_feedback_congestion.proofs.chunks.run_length.Given as goal

abbrev pub invariant-loop-count : goal.invariant-loop-count
invariant-loop-count l = record {
  some : 1 ≤ l.count;
  within : l.count ≤ length l.symbols;
  short : l.count ≤ 8191;
  first : l.first ≡ get_or l.symbols 0 0;
  same : take l.count l.symbols ≡ replicate l.count (get_or l.symbols 0 0);
}

-- proposed from the loop's first test
abbrev pub decreases-loop-count : goal.decreases-loop-count
decreases-loop-count l = length l.symbols - l.count
