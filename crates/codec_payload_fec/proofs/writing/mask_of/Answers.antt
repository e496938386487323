use Rattle.std.proofs.Common.{ℕ, ◌+◌, ◌*◌, ◌<◌, ◌∙◌, sym, ap, subst, arith}
use Rattle.codec_payload_fec.specs.Writing.{bit_of, mask_in}
use Rattle.codec_payload_fec.proofs.GroupLemmas.{mask_bound, mask_more, mask_none}
use Rattle.codec_payload_fec.proofs.writing.mask_of.Goals as goal

pub loop-place-init : goal.loop-place-init
loop-place-init c = (sym (mask_none c.args.size c.args.count c.args.n), omega arith)

pub loop-place-preserved : goal.loop-place-preserved
loop-place-preserved c =
    let bit = c.bit_of-bit.ensures.value ∙ ap bit_of c.is_chosen.ensures in
    let more = mask_more c.loop-place.place c.args.size c.args.count c.args.n in
    let is = ap (λ (m : ℕ). m * 2 + c.bit_of-bit.result) c.loop-place.invariant.0 ∙ ap (λ (b : ℕ). mask_in c.loop-place.place c.args.size c.args.count c.args.n * 2 + b) bit ∙ sym more in
    (is, subst (λ (m : ℕ). m < 281474976710656) (sym is) (mask_bound (c.loop-place.place + 1) c.args.size c.args.count c.args.n (omega arith)))

pub returns : goal.returns
returns c =
    let all = c.loop-place.invariant.0 in
    all ∙ ap (λ (k : ℕ). mask_in k c.args.size c.args.count c.args.n) (omega arith)
