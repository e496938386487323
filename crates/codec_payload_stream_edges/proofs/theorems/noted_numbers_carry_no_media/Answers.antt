use Rattle.codec_payload_stream_edges.proofs.RunLemmas.{note_between_pictures, note_no_media}
use Rattle.codec_payload_stream_edges.proofs.theorems.noted_numbers_carry_no_media.Goals as goal

pub returns-clause-between : goal.returns-clause-between
returns-clause-between c = note_between_pictures c.between_pictures_is_no_media.ensures.found c.between_pictures_is_no_media.ensures.no_media

pub returns-clause-no_media : goal.returns-clause-no_media
returns-clause-no_media c = note_no_media c.between_pictures_is_no_media.ensures.found c.between_pictures_is_no_media.ensures.no_media
