use Rattle.codec_payload_session_units.proofs.RedUnits.{red_promises, red_units}
use Rattle.codec_payload_session_units.proofs.theorems.red_streams_release_units.Goals as goal

pub returns : goal.returns
returns c = record { units = red_units; promises = red_promises }
