use Rattle.std.proofs.Common.{◌≡◌, ◌<◌, [], ◌∷◌, length, Ok, Err, sym, ap, ◌∙◌, arith}
use Rattle.codec_payload_media.specs.AmrWbFrames.{frame_at, frame_of, frames_left}
use Rattle.codec_payload_media.specs.Items.{items_at}
use Rattle.codec_payload_media.proofs.AmrWbLemmas.{frame_shorter}
use Rattle.codec_payload_media.proofs.ItemLemmas.{items_more, items_none, no_bytes, some_bytes}
use Rattle.codec_payload_media.proofs.amr_wb.AmrWbFramesIterator.next.Goals as goal

pub returns-then-is_empty-clause-steps : goal.returns-then-is_empty-clause-steps
returns-then-is_empty-clause-steps c =
    let none : frames_left c.args.self.now ≡ [] = ap frames_left (sym c.self.view_is) ∙ items_none frame_at frame_shorter c.self.inside.bytes.now (no_bytes c.self.inside.bytes.now c.if-is_empty.ensures) in
    (none, none)

pub returns-in-Ok-clause-steps : goal.returns-in-Ok-clause-steps
returns-in-Ok-clause-steps c =
    ap frames_left (sym c.self.view_is) ∙ items_more frame_at frame_shorter c.self.inside.bytes.now (Ok (frame_of c.in-Ok.frame, c.in-Ok.rest.now)) (some_bytes c.self.inside.bytes.now c.if-is_empty.ensures) (sym c.in-Ok.ensures)

pub returns-in-Ok-clause-goes : goal.returns-in-Ok-clause-goes
returns-in-Ok-clause-goes c =
    let steps : frames_left c.args.self.now ≡ Ok (frame_of c.in-Ok.frame) ∷ items_at frame_at c.in-Ok.rest.now =
    ap frames_left (sym c.self.view_is) ∙ items_more frame_at frame_shorter c.self.inside.bytes.now (Ok (frame_of c.in-Ok.frame, c.in-Ok.rest.now)) (some_bytes c.self.inside.bytes.now c.if-is_empty.ensures) (sym c.in-Ok.ensures) in
    let fewer : length (items_at frame_at c.in-Ok.rest.now) < length (frames_left c.args.self.now) = omega (arith, ap length steps) in
    record { on = λ _. (tt, tt, fewer); keeps = tt; rests = λ _. tt }

pub returns-in-Err-clause-steps : goal.returns-in-Err-clause-steps
returns-in-Err-clause-steps c =
    ap frames_left (sym c.self.view_is) ∙ items_more frame_at frame_shorter c.self.inside.bytes.now (Err c.in-Err.fault) (some_bytes c.self.inside.bytes.now c.if-is_empty.ensures) (sym c.in-Err.ensures)
    ∙ ap (λ xs. Err c.in-Err.fault ∷ xs) (sym (items_none frame_at frame_shorter [] (omega arith)))

pub returns-in-Err-clause-goes : goal.returns-in-Err-clause-goes
returns-in-Err-clause-goes c =
    let steps : frames_left c.args.self.now ≡ Err c.in-Err.fault ∷ [] =
    ap frames_left (sym c.self.view_is) ∙ items_more frame_at frame_shorter c.self.inside.bytes.now (Err c.in-Err.fault) (some_bytes c.self.inside.bytes.now c.if-is_empty.ensures) (sym c.in-Err.ensures) in
    let fewer : length (items_at frame_at []) < length (frames_left c.args.self.now) = omega (arith, ap length steps, ap length (items_none frame_at frame_shorter [] (omega arith))) in
    record { on = λ _. (tt, tt, fewer); keeps = tt; rests = λ _. tt }
