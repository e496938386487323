use Rattle.codec_payload_session_units.proofs.RedExampleLemmas.{red_can_be_met}
use Rattle.codec_payload_session_units.proofs.theorems.red_premises_can_be_met.Goals as goal

pub returns : goal.returns
returns c = red_can_be_met
