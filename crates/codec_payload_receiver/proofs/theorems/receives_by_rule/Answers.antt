use Rattle.codec_payload_receiver.proofs.RedRuleLemmas.{stored_by_rule}
use Rattle.codec_payload_receiver.proofs.theorems.receives_by_rule.Goals as goal

pub returns : goal.returns
returns c = stored_by_rule
