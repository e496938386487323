use Rattle.codec_payload_vp9.proofs.SpelledIsReadLemmas.{spelled_is_read}
use Rattle.codec_payload_vp9.proofs.vp9.theorems.descriptors_are_read.Goals as goal

pub returns : goal.returns
returns c = spelled_is_read
