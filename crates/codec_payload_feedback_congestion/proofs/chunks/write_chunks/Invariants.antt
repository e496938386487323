use Rattle.std.proofs.Common.{length}
use Rattle.codec_payload_feedback_congestion.proofs.ChunkLemmas.{ChunkedUpTo}
use Rattle.codec_payload_feedback_congestion.proofs.chunks.write_chunks.Given as goal

abbrev pub invariant-loop-rest : goal.invariant-loop-rest
invariant-loop-rest l = ChunkedUpTo l.fn.out.items l.out.items l.symbols l.rest

abbrev pub decreases-loop-rest : goal.decreases-loop-rest
decreases-loop-rest l = length l.rest
