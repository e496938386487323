use Rattle.std.proofs.Common.{◌∙◌, sym, arith}
use Rattle.codec_payload_index.proofs.HalvedLemmas.{pair_of_one, pair_of_two}
use Rattle.codec_payload_index.proofs.times.lesser.Goals as goal

pub returns-then-place-level : goal.returns-then-place-level
returns-then-place-level c = c.min.ensures ∙ sym (pair_of_two c.args.level.now c.args.pair 0 (omega (arith, c.if-place-level.true)))

pub returns-else-place-level : goal.returns-else-place-level
returns-else-place-level c = sym (pair_of_one c.args.level.now c.args.pair 0 (omega (arith, c.requires, c.if-place-level.false)))
