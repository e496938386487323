use Rattle.std.proofs.Common.{◌≡◌, ◌<◌, [], ◌∷◌, length, Ok, Err, sym, ap, ◌∙◌, arith}
use Rattle.codec_payload_media.specs.Av1Units.{obu_at, obu_of, obus_left}
use Rattle.codec_payload_media.specs.Items.{items_at}
use Rattle.codec_payload_media.proofs.Av1Lemmas.{obu_shorter}
use Rattle.codec_payload_media.proofs.ItemLemmas.{items_more, items_none, no_bytes, some_bytes}
use Rattle.codec_payload_media.proofs.av1.obu.Av1ObusIterator.next.Goals as goal

pub returns-then-is_empty-clause-steps : goal.returns-then-is_empty-clause-steps
returns-then-is_empty-clause-steps c =
    let none : obus_left c.args.self.now ≡ [] = ap obus_left (sym c.self.view_is) ∙ items_none obu_at obu_shorter c.self.inside.bytes.now (no_bytes c.self.inside.bytes.now c.if-is_empty.ensures) in
    (none, none)

pub returns-in-Ok-clause-steps : goal.returns-in-Ok-clause-steps
returns-in-Ok-clause-steps c =
    ap obus_left (sym c.self.view_is) ∙ items_more obu_at obu_shorter c.self.inside.bytes.now (Ok (obu_of c.in-Ok.obu, c.in-Ok.rest.now)) (some_bytes c.self.inside.bytes.now c.if-is_empty.ensures) (sym c.in-Ok.ensures)

pub returns-in-Ok-clause-goes : goal.returns-in-Ok-clause-goes
returns-in-Ok-clause-goes c =
    let steps : obus_left c.args.self.now ≡ Ok (obu_of c.in-Ok.obu) ∷ items_at obu_at c.in-Ok.rest.now =
    ap obus_left (sym c.self.view_is) ∙ items_more obu_at obu_shorter c.self.inside.bytes.now (Ok (obu_of c.in-Ok.obu, c.in-Ok.rest.now)) (some_bytes c.self.inside.bytes.now c.if-is_empty.ensures) (sym c.in-Ok.ensures) in
    let fewer : length (items_at obu_at c.in-Ok.rest.now) < length (obus_left c.args.self.now) = omega (arith, ap length steps) in
    record { on = λ _. (tt, tt, fewer); keeps = tt; rests = λ _. tt }

pub returns-in-Err-clause-steps : goal.returns-in-Err-clause-steps
returns-in-Err-clause-steps c =
    ap obus_left (sym c.self.view_is) ∙ items_more obu_at obu_shorter c.self.inside.bytes.now (Err c.in-Err.fault) (some_bytes c.self.inside.bytes.now c.if-is_empty.ensures) (sym c.in-Err.ensures)
    ∙ ap (λ xs. Err c.in-Err.fault ∷ xs) (sym (items_none obu_at obu_shorter [] (omega arith)))

pub returns-in-Err-clause-goes : goal.returns-in-Err-clause-goes
returns-in-Err-clause-goes c =
    let steps : obus_left c.args.self.now ≡ Err c.in-Err.fault ∷ [] =
    ap obus_left (sym c.self.view_is) ∙ items_more obu_at obu_shorter c.self.inside.bytes.now (Err c.in-Err.fault) (some_bytes c.self.inside.bytes.now c.if-is_empty.ensures) (sym c.in-Err.ensures) in
    let fewer : length (items_at obu_at []) < length (obus_left c.args.self.now) = omega (arith, ap length steps, ap length (items_none obu_at obu_shorter [] (omega arith))) in
    record { on = λ _. (tt, tt, fewer); keeps = tt; rests = λ _. tt }
