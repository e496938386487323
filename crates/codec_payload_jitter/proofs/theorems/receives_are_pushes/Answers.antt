use Rattle.codec_payload_jitter.proofs.RunLemmas.{are_stretches, are_true_stretches, are_chains}
use Rattle.codec_payload_jitter.proofs.theorems.receives_are_pushes.Goals as goal

pub returns-clause-stretches : goal.returns-clause-stretches
returns-clause-stretches c = are_stretches

pub returns-clause-true_numbers : goal.returns-clause-true_numbers
returns-clause-true_numbers c = are_true_stretches

pub returns-clause-rounds : goal.returns-clause-rounds
returns-clause-rounds c = are_chains
