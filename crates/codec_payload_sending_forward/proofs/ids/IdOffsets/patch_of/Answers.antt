use Rattle.std.proofs.Common.{◌≡◌, ◌∙◌, sym, ap, subst}
use Rattle.codec_payload_vp8.specs.Vp8Descriptor.{Descriptor, IsDescribed}
use Rattle.codec_payload_vp8.specs.Vp8Patch.{Builder}
use Rattle.codec_payload_sending_forward.proofs.ids.IdOffsets.patch_of.Goals as goal

pub returns-in-Ok-clause-reaches : goal.returns-in-Ok-clause-reaches
returns-in-Ok-clause-reaches c payload rest described =
    let same : c.with_tl0.result.descriptor ≡ c.args.descriptor.now =
    ap (λ (b : Builder). b.descriptor) c.with_tl0.ensures ∙ (ap (λ (b : Builder). b.descriptor) c.with_id-builder.ensures ∙ ap (λ (b : Builder). b.descriptor) c.patch.ensures) in
    let p = c.in-Ok.ensures.patches payload rest (subst (λ (d : Descriptor). IsDescribed payload d rest) (sym same) described) in
    p.2.reaches
