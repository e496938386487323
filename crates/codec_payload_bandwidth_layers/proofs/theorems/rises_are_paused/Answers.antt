use Rattle.codec_payload_bandwidth_layers.proofs.ChoiceLemmas.{pauses_hold}
use Rattle.codec_payload_bandwidth_layers.proofs.theorems.rises_are_paused.Goals as goal

pub returns : goal.returns
returns c = pauses_hold
