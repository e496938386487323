use Rattle.codec_payload_sending_fec.proofs.FrameLemmas.{held_is}
use Rattle.codec_payload_sending_fec.proofs.held_frame.hold.Goals as goal

pub returns-clause-ok : goal.returns-clause-ok
returns-clause-ok c =
    held_is c.args.frame.now.items c.reserve.new.self.items c.as_slice-2.result.now c.insert_at.new.frame.items c.args.packet c.as_slice.result.now c.number_of.result c.place_in-place.result
    c.in_ok-reserve.ensures.items c.as_slice-2.ensures.value c.place_in-place.ensures.value c.as_slice.ensures.value c.number_of.ensures c.insert_at.ensures
