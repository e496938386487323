use Rattle.std.proofs.Common.{arith, rules}
use Rattle.std.proofs.lemmas.Grind.{common_steps}
use Rattle.payload_vectors.proofs.DistanceLemmas.{accepted_few}
use Rattle.payload_vectors.proofs.red_line.accepted_distances.Goals as goal

pub returns-in_default-clause-found : goal.returns-in_default-clause-found
returns-in_default-clause-found c = (
  λ some. absurd (grind (arith, common_steps, some)),
  λ found. absurd (omega (arith, c.in_ok-distances.ensures.none (search rules) found.0 found.1, accepted_few found.0 found.2)),
)
