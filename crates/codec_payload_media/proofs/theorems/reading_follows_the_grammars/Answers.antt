use Rattle.codec_payload_media.proofs.AmrWbGrammar.{frames_again, frames_spelled}
use Rattle.codec_payload_media.proofs.ObuGrammar.{obus_again, obus_spelled}
use Rattle.codec_payload_media.proofs.OpusGrammar.{opus_again, opus_taken}
use Rattle.codec_payload_vpx.proofs.SuperframeGrammar.{superframe_again, superframe_taken}
use Rattle.codec_payload_media.proofs.theorems.reading_follows_the_grammars.Goals as goal

pub returns-clause-amr_wb : goal.returns-clause-amr_wb
returns-clause-amr_wb c = λ bytes frames are. (frames_again bytes frames, frames_spelled bytes frames are)

pub returns-clause-obus : goal.returns-clause-obus
returns-clause-obus c = λ bytes obus are. (obus_again bytes obus, obus_spelled bytes obus are)

pub returns-clause-superframes : goal.returns-clause-superframes
returns-clause-superframes c = λ unit frames are. (superframe_again unit frames, superframe_taken unit frames are)

pub returns-clause-opus : goal.returns-clause-opus
returns-clause-opus c = λ packet p are. (opus_again packet p, opus_taken packet p are)
