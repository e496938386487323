use Rattle.std.proofs.Common.{◌∙◌, ap, arith, length, ◌<◌}
use Rattle.std.specs.Prelude.{slice_set}
use Rattle.codec_payload_buffer.specs.declared.buffer.frames.CompleteFrame.{CompleteFrame}
use Rattle.codec_payload_buffer.proofs.FramePlaces.{note_over, note_new}
use Rattle.codec_payload_buffer.proofs.buffer.frames.put_within.Goals as goal

pub returns-then-at-frame-clause-frames : goal.returns-then-at-frame-clause-frames
returns-then-at-frame-clause-frames c =
    let items = c.args.complete.now.items in
    let place = c.find_end-place.result in
    let is = c.note.ensures.items in
    let within : place < length items = omega (arith, c.requires.within, c.find_end-place.ensures) in
    is.others ∙ ap (λ (f : CompleteFrame). slice_set items place f) is.noted
    ∙ note_over place c.args.frame c.at.result.now items c.find_end-place.ensures within c.at.ensures c.if-at-frame.true

pub returns-else-at-frame-clause-frames : goal.returns-else-at-frame-clause-frames
returns-else-at-frame-clause-frames c =
    let items = c.args.complete.now.items in
    c.insert.ensures.items ∙ note_new c.find_end-place.result c.args.frame items c.find_end-place.ensures (λ l. (c.at.result.now, c.at.ensures, c.if-at-frame.false))
