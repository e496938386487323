use Rattle.codec_payload_bandwidth_layers.proofs.ChoiceLemmas.{ascends, fits, is_stable, trial_raises}
use Rattle.codec_payload_bandwidth_layers.proofs.theorems.choices_are_stable.Goals as goal

pub returns : goal.returns
returns c = record { fits = fits; stable = is_stable; ascends = ascends; raises = trial_raises }
