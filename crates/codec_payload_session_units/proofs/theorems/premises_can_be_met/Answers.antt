use Rattle.codec_payload_session_units.proofs.ExampleLemmas.{can_be_met}
use Rattle.codec_payload_session_units.proofs.theorems.premises_can_be_met.Goals as goal

pub returns : goal.returns
returns c = can_be_met
