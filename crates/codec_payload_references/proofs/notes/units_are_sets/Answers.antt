use Rattle.codec_payload_references.proofs.SetLemmas.{units_are_sets}
use Rattle.codec_payload_references.proofs.notes.units_are_sets.Goals as goal

pub returns : goal.returns
returns c = units_are_sets
