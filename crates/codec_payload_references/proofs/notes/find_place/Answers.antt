use Rattle.std.proofs.Common.{arith}
use Rattle.codec_payload_references.proofs.NoteLemmas.{place_from_point, rises_by_number}
use Rattle.codec_payload_references.proofs.notes.find_place.Goals as goal

pub place_of-requires : goal.place_of-requires
place_of-requires c = rises_by_number c.args.held.now.items c.requires

pub returns : goal.returns
returns c = place_from_point c.args.number c.args.held.now.items c.place_of.result c.place_of.ensures.point (omega (arith, c.place_of.ensures.bound))
