use Rattle.codec_payload_buffer.proofs.FramePlaces.{frames_by_end, end_from_point}
use Rattle.codec_payload_buffer.proofs.buffer.frames.find_end.Goals as goal

pub place_near-requires : goal.place_near-requires
place_near-requires c = frames_by_end c.args.complete.now.items c.requires

pub returns : goal.returns
returns c = end_from_point c.args.last c.args.complete.now.items c.place_near.result c.place_near.ensures.point c.place_near.ensures.bound
