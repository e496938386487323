use Rattle.std.proofs.Common.{arith}
use Rattle.codec_payload_buffer.proofs.PlaceLemmas.{rises_by_number, place_from_point}
use Rattle.codec_payload_buffer.proofs.buffer.packets.place_from_near.Goals as goal

pub place_near-requires : goal.place_near-requires
place_near-requires c = rises_by_number c.args.packets.now.items c.requires

pub returns : goal.returns
returns c = place_from_point c.args.number c.args.packets.now.items c.place_near.result c.place_near.ensures.point (omega (arith, c.place_near.ensures.bound))
