use Rattle.std.proofs.Common.{◌≡◌, ◌∙◌, ◌<◌, ◌≤◌, ap, sym, replicate, get_or, arith}
use Rattle.codec_payload_feedback_congestion.proofs.ChunkLemmas.{all_first, below_front, says_bits, says_pairs, says_run}
use Rattle.codec_payload_feedback_congestion.proofs.chunks.chunk.Goals as goal

pub overflow_mul-result : goal.overflow_mul-result
overflow_mul-result c = omega (arith, all_first 4 c.args.symbols.now (omega arith) c.requires.below)

pub overflow_add-result : goal.overflow_add-result
overflow_add-result c = omega (arith, all_first 4 c.args.symbols.now (omega arith) c.requires.below, c.run_length-run.ensures.short)

pub returns-then-takes_run-clause-says : goal.returns-then-takes_run-clause-says
returns-then-takes_run-clause-says c =
    let first : c.from.result ≡ get_or c.args.symbols.now 0 0 = omega arith in
    let small : c.from.result < 4 = omega (arith, first, all_first 4 c.args.symbols.now (omega arith) c.requires.below) in
    says_run c.from.result c.run_length-run.result _ small (omega (arith, c.run_length-run.ensures.short)) c.run_length-run.ensures.within
    ∙ ap (λ s. replicate c.run_length-run.result s) first ∙ sym c.run_length-run.ensures.same

pub returns-then-are_below-clause-says : goal.returns-then-are_below-clause-says
returns-then-are_below-clause-says c = says_bits c.pack.result c.min.result c.args.symbols.now (omega arith) c.pack.ensures.digits (omega (arith, c.pack.ensures.least)) (omega (arith, c.pack.ensures.most))

pub pack-requires-2-clause-below : goal.pack-requires-2-clause-below
pack-requires-2-clause-below c = below_front 4 7 c.args.symbols.now c.requires.below

pub returns-clause-says : goal.returns-clause-says
returns-clause-says c = says_pairs c.pack-2.result c.min-2.result c.args.symbols.now (omega arith) c.pack-2.ensures.digits (omega (arith, c.pack-2.ensures.least))
