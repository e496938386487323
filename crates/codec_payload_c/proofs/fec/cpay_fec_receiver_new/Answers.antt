use Rattle.std.proofs.Common.{rules, ◌≡◌, ◌∙◌, refl, sym, ap, subst, true, Option, Some, None}
use Rattle.codec_payload_c_path.specs.FecReceivers.{IsFecReceiverOf}
use Rattle.codec_payload_c_path.specs.Held.{held_of}
use Rattle.codec_payload_c_path.specs.Kinds.{Makes}
use Rattle.codec_payload_c_path.specs.declared.object.PathObject.{PathObject}
use Rattle.codec_payload_c_path.specs.declared.object.PathObject.TheVariants as objects
use Rattle.codec_payload_c.proofs.fec.cpay_fec_receiver_new.Goals as goal

pub returns-in-Ok-new-2 : goal.returns-in-Ok-new-2
returns-in-Ok-new-2 c =
    let made : IsFecReceiverOf c.args.settings.now (objects.FecReceiver c.in-Ok-new.receiver) = ap held_of c.in-Ok-new.ensures.ok ∙ c.in-Ok.ensures in
    let held : IsFecReceiverOf c.args.settings.now c.in-Ok-new-2.object.value = subst (λ (o : PathObject). IsFecReceiverOf c.args.settings.now o) (sym c.in-Ok-new-2.ensures.ok) made in
    let none : None ≡ c.args.handle.now.place.value = search rules in
    subst (λ (after : Option PathObject). Makes (IsFecReceiverOf c.args.settings.now) true c.args.handle.now.place.value 0 after) (sym c.put-in-Ok-new-2.ensures)
    (subst (λ (before : Option PathObject). Makes (IsFecReceiverOf c.args.settings.now) true before 0 (Some c.in-Ok-new-2.object.value)) none (refl, refl, held))
