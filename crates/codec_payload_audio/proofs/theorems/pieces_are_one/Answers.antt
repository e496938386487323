use Rattle.codec_payload_base.proofs.PieceLemmas.{one_list}
use Rattle.codec_payload_audio.proofs.theorems.pieces_are_one.Goals as goal

pub returns : goal.returns
returns c = one_list
