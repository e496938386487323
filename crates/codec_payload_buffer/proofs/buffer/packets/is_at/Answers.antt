use Rattle.std.proofs.Common.{length, map, arith, ◌≡◌, false, ◌≤◌}
use Rattle.std.proofs.lemmas.List.{length-map}
use Rattle.std.proofs.lemmas.Bool.Decides.{nat_tests}
use Rattle.codec_payload_buffer.specs.Held.{held_of, has_number}
use Rattle.codec_payload_buffer.specs.Scan.{place_of}
use Rattle.codec_payload_buffer.proofs.PlaceLemmas.{at_found, past_place}
use Rattle.codec_payload_buffer.proofs.buffer.packets.is_at.Goals as goal

pub returns-then-place-len : goal.returns-then-place-len
returns-then-place-len c =
    at_found c.args.number c.args.packets.now.items c.args.place c.at.result.now c.requires.rises c.requires.place
    (omega (arith, c.if-place-len.true, c.len.ensures)) c.at.ensures

pub returns-else-place-len : goal.returns-else-place-len
returns-else-place-len c =
    let hs = map held_of c.args.packets.now.items in
    let past : length hs ≤ place_of c.args.number hs = omega (arith, length-map c.args.packets.now.items held_of) in
    let no : has_number c.args.number hs ≡ false = past_place c.args.number hs c.requires.rises past in
    grind (arith, nat_tests)
