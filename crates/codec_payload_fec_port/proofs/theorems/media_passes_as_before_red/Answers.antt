use Rattle.codec_payload_fec_port.proofs.PassingLemmas.{media_passes}
use Rattle.codec_payload_fec_port.proofs.theorems.media_passes_as_before_red.Goals as goal

pub returns : goal.returns
returns c = media_passes
