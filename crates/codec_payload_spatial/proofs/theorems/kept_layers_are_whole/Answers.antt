use Rattle.codec_payload_spatial.proofs.SpatialLemmas.{kept_whole}
use Rattle.codec_payload_spatial.proofs.theorems.kept_layers_are_whole.Goals as goal

pub returns : goal.returns
returns c = kept_whole
