use Rattle.std.proofs.Common.{arith, ◌≡◌, ◌++◌, length, take, drop, sym, ◌∙◌, ap, take-append-drop}
use Rattle.std.proofs.lemmas.Grind.{common_steps}
use Rattle.codec_payload_audio.proofs.amr_wb.shift.append_shifted.Goals as goal

pub returns-clause-kept : goal.returns-clause-kept
returns-clause-kept c =
    let w = c.write_shifted.new.to in
    let out = c.args.out.now.items in
    let items = c.resize.new.self.items in
    let same : take c.resize.new.self.len (w ++ drop (length w) items) ≡ w = grind (arith, common_steps) in
    let front : take (length out) w ≡ out = grind (arith, common_steps) in
    (drop (length out) w, same ∙ sym (take-append-drop (length out) w) ∙ ap (λ t. t ++ drop (length out) w) front)
