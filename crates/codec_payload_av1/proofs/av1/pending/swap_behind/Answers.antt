use Rattle.std.proofs.Common.{◌≡◌, ◌∙◌, ℕ, length, drop, ap, arith}
use Rattle.std.specs.Global.{Vec}
use Rattle.std.proofs.lemmas.List.{with_items_is, length-append, length-drop}
use Rattle.codec_payload_av1.proofs.av1.pending.swap_behind.Goals as goal

pub returns : goal.returns
returns c =
    let out = c.args.out.now.items in
    let bytes = c.args.bytes.now.items in
    let made = rw (c.deref.ensures.value, c.deref_mut.ensures.value) at c.write_over.ensures in
    let size : length c.write_over.new.to ≡ c.args.bytes.now.len = omega
    (arith, ap length made, length-append out (drop (length out) bytes), length-drop (length out) bytes, c.requires, c.args.bytes.now.ok.0) in
    ap (λ (v : Vec ℕ). v.items) c.swap.ensures.y_after ∙ with_items_is c.args.bytes.now c.write_over.new.to size ∙ made
