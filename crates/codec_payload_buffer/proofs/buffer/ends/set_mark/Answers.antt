use Rattle.std.proofs.Common.{◌∙◌, ap, map}
use Rattle.std.specs.Prelude.{slice_set}
use Rattle.codec_payload_buffer.specs.Held.{held_of}
use Rattle.codec_payload_buffer.specs.Ends.{Mark, mark_of, marked}
use Rattle.codec_payload_buffer.proofs.RowEnds.{held_set, marks_set, mark_there}
use Rattle.codec_payload_buffer.proofs.buffer.ends.set_mark.Goals as goal

pub returns-clause-held : goal.returns-clause-held
returns-clause-held c =
    let is = c.note.ensures.items in
    ap (map held_of) is.others ∙ held_set c.args.packets.now.items c.args.place is.old is.new is.there is.noted.0

pub returns-clause-marks : goal.returns-clause-marks
returns-clause-marks c =
    let xs = c.args.packets.now.items in
    let is = c.note.ensures.items in
    ap (map mark_of) is.others ∙ marks_set xs c.args.place is.new
    ∙ ap (slice_set (map mark_of xs) c.args.place) (is.noted.1 ∙ ap (λ (m : Mark). marked m c.args.other_end c.args.row_head) (mark_there xs c.args.place is.old c.requires is.there))
