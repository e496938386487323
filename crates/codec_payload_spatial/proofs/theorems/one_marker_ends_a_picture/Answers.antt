use Rattle.codec_payload_spatial.proofs.SpatialLemmas.{one_marker}
use Rattle.codec_payload_spatial.proofs.theorems.one_marker_ends_a_picture.Goals as goal

pub returns : goal.returns
returns c = one_marker
