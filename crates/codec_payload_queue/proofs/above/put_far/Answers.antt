use Rattle.std.proofs.Common.{◌++◌, ◌∷◌, [], ◌∙◌, List, ap, sym, arith, append_assoc}
use Rattle.std.proofs.lemmas.List.Edits.{insert-append_left, insert-append_right}
use Rattle.codec_payload_queue.specs.Tiers.{in_tiers}
use Rattle.codec_payload_queue.proofs.TierLemmas.{carried_first}
use Rattle.codec_payload_queue.proofs.above.put_far.Goals as goal

pub returns-then-place-len-clause-items : goal.returns-then-place-len-clause-items
returns-then-place-len-clause-items g c =
    let xs = c.args.first.now.items in
    let ts = c.args.tiers.now.items in
    let ys = c.put_in-carried.new.tier.items in
    ap (λ (zs : List _). ys ++ zs) (c.carry.ensures.items ∙ carried_first c.put_in-carried.result ts)
    ∙ sym (append_assoc ys (c.put_in-carried.result ∷ []) (in_tiers ts))
    ∙ ap (λ (zs : List _). zs ++ in_tiers ts) c.put_in-carried.ensures.items
    ∙ sym (insert-append_left xs (in_tiers ts) c.args.place c.args.item (omega (arith, c.if-place-len.true, c.len-len.ensures, c.args.first.now.ok.0)))

pub returns-else-place-len-clause-items : goal.returns-else-place-len-clause-items
returns-else-place-len-clause-items g c =
    let xs = c.args.first.now.items in
    ap (λ (zs : List _). xs ++ zs) c.put_above.ensures.items
    ∙ sym (insert-append_right xs (in_tiers c.args.tiers.now.items) c.len-len.result c.args.place c.args.item (omega (arith, c.len-len.ensures, c.args.first.now.ok.0)) (omega (arith, c.if-place-len.false)))
