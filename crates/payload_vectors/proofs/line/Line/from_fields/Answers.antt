use Rattle.std.proofs.Common.{arith}
use Rattle.std.proofs.lemmas.Grind.{common_steps}
use Rattle.payload_vectors.proofs.line.Line.from_fields.Goals as goal

pub returns-in_default-clause-sample : goal.returns-in_default-clause-sample
returns-in_default-clause-sample c = λ time talk_spurt hex form. absurd (grind (arith, common_steps))
