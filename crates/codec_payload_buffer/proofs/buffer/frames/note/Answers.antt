use Rattle.std.proofs.Common.{◌≡◌, ◌∙◌, ◌≤◌, sym, arith, length}
use Rattle.std.proofs.lemmas.Bool.Decides.{nat_tests}
use Rattle.codec_payload_buffer.specs.Rows.{frame_place}
use Rattle.codec_payload_buffer.proofs.FramePlaces.{frame_place_within, noted_last}
use Rattle.codec_payload_buffer.proofs.buffer.frames.note.Goals as goal

pub returns-else-is_within-clause-frames : goal.returns-else-is_within-clause-frames
returns-else-is_within-clause-frames c =
    let items = c.args.complete.now.items in
    let last = c.in-Some.frame.last in
    let over : length items ≤ frame_place last items = grind (arith, nat_tests, sym c.is_within.ensures ∙ c.if-is_within.false) in
    let at : frame_place last items ≡ length items = omega (arith, over, frame_place_within last items) in
    rw c.in-Some.is (c.push_back.ensures.items ∙ sym (noted_last c.in-Some.frame items at))
