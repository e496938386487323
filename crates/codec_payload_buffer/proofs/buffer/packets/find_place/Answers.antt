use Rattle.std.proofs.Common.{arith}
use Rattle.codec_payload_buffer.proofs.PlaceLemmas.{rises_by_number, place_from_point}
use Rattle.codec_payload_buffer.proofs.buffer.packets.find_place.Goals as goal

pub place_of-requires : goal.place_of-requires
place_of-requires c = rises_by_number c.args.packets.now.items c.requires

pub returns : goal.returns
returns c = place_from_point c.args.number c.args.packets.now.items c.place_of.result c.place_of.ensures.point (omega (arith, c.place_of.ensures.bound))
