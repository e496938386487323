use Rattle.std.proofs.Common.{◌∙◌, ap, arith, refl, sym, Some}
use Rattle.std.specs.Int.Bits.{bit_or}
use Rattle.codec_payload_references.specs.LayerFrames.{differences_in}
use Rattle.codec_payload_references.proofs.LayerLemmas.{last_difference, next_difference}
use Rattle.codec_payload_references.proofs.layer_frame.+differences_in.Goals as goal

pub returns-then-octet-eq0 : goal.returns-then-octet-eq0
returns-then-octet-eq0 t c =
    ap Some c.difference_bit-difference.ensures
    ∙ last_difference c.args.most c.in_ok-octet.field-0-0.now c.in_ok-octet.rest.now (omega (arith, c.if-most-eq0.false)) c.if-octet-eq0.true
    ∙ sym (ap (differences_in c.args.most) c.in_ok-octet.ensures.cases.0)

pub returns : goal.returns
returns t c =
    ap (λ x. Some (bit_or x c.in_ok-others.others)) c.difference_bit-difference.ensures
    ∙ next_difference c.args.most _ c.in_ok-octet.field-0-0.now c.in_ok-others.others c.in_ok-octet.rest.now (omega (arith, c.if-most-eq0.false)) refl c.if-octet-eq0.false c.in_ok-others.ensures
    ∙ sym (ap (differences_in c.args.most) c.in_ok-octet.ensures.cases.0)
