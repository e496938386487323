use Rattle.std.proofs.Common.{arith, sym}
use Rattle.codec_payload_feedback_congestion.proofs.ChunkLemmas.{below_more, below_none, below_not, below_zero}
use Rattle.codec_payload_feedback_congestion.proofs.chunks.+are_below.Goals as goal

pub returns-then-count-eq0 : goal.returns-then-count-eq0
returns-then-count-eq0 t c = below_zero c.args.base c.args.count c.args.symbols.now (omega arith)

pub returns-in-empty : goal.returns-in-empty
returns-in-empty t c = sym (below_none c.args.base c.args.count c.args.symbols.now (omega arith))

pub returns-then-symbol-base : goal.returns-then-symbol-base
returns-then-symbol-base t c = below_more c.args.base c.args.count c.args.symbols.now c.are_below.result (omega arith) (omega arith) (omega arith) c.are_below.ensures

pub returns-else-symbol-base : goal.returns-else-symbol-base
returns-else-symbol-base t c = below_not c.args.base c.args.count c.args.symbols.now (omega arith) (omega arith) (omega arith)
