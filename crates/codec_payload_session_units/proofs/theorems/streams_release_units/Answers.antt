use Rattle.codec_payload_session_units.proofs.TheoremLemmas.{each_releases, ended_releases, release_units}
use Rattle.codec_payload_session_units.proofs.theorems.streams_release_units.Goals as goal

pub returns : goal.returns
returns c =
    let nothing = c.between_pictures_is_no_media.ensures.nothing in
    let vp8 = c.packetizers_send_in_order.ensures.vp8 in
    let vp9 = c.packetizers_send_in_order.ensures.vp9 in
    record { units = release_units nothing vp8 vp9; each = each_releases nothing vp8 vp9; ended = ended_releases nothing vp8 vp9 }
