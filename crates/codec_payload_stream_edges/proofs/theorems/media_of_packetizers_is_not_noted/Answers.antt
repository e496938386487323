use Rattle.codec_payload_stream_edges.proofs.OwnLemmas.{none_of_vp8, none_of_vp9}
use Rattle.codec_payload_stream_edges.proofs.theorems.media_of_packetizers_is_not_noted.Goals as goal

pub returns-clause-vp8 : goal.returns-clause-vp8
returns-clause-vp8 c = none_of_vp8 c.between_pictures_is_no_media.ensures.found c.between_pictures_is_no_media.ensures.no_media c.packetizers_send_in_order.ensures.vp8

pub returns-clause-vp9 : goal.returns-clause-vp9
returns-clause-vp9 c = none_of_vp9 c.between_pictures_is_no_media.ensures.found c.between_pictures_is_no_media.ensures.no_media c.packetizers_send_in_order.ensures.vp9
