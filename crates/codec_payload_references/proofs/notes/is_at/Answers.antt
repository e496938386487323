use Rattle.std.proofs.Common.{length, arith, ◌≡◌, false, ◌≤◌}
use Rattle.std.proofs.lemmas.Bool.Decides.{nat_tests}
use Rattle.codec_payload_references.specs.Notes.{has_number, place_of}
use Rattle.codec_payload_references.proofs.NoteLemmas.{at_found, past_place}
use Rattle.codec_payload_references.proofs.notes.is_at.Goals as goal

pub returns-then-place-len : goal.returns-then-place-len
returns-then-place-len c =
    at_found c.args.number c.args.held.now.items c.args.place c.at.result.now c.requires.rises c.requires.place
    (omega (arith, c.if-place-len.true, c.len.ensures)) c.at.ensures

pub returns-else-place-len : goal.returns-else-place-len
returns-else-place-len c =
    let hs = c.args.held.now.items in
    let past : length hs ≤ place_of c.args.number hs = omega arith in
    let no : has_number c.args.number hs ≡ false = past_place c.args.number hs c.requires.rises past in
    grind (arith, nat_tests)
