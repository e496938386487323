use Rattle.std.proofs.Common.{◌≡◌}
use Rattle.codec_payload_jitter.specs.NotedRanges.{is_any_held}
use Rattle.codec_payload_jitter.proofs.jitter.JitterBuffer.holds_any.Given as goal

abbrev pub invariant-loop-number : goal.invariant-loop-number
invariant-loop-number g l = is_any_held l.number l.end l.self.buffer.held ≡ is_any_held l.first l.end l.self.buffer.held
