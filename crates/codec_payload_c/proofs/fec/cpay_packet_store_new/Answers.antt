use Rattle.std.proofs.Common.{rules, ◌≡◌, ◌∙◌, refl, sym, subst, true, Option, Some, None}
use Rattle.codec_payload_c_path.specs.Fec.{IsStoreOf}
use Rattle.codec_payload_c_path.specs.Kinds.{Makes}
use Rattle.codec_payload_c_path.specs.declared.object.PathObject.{PathObject}
use Rattle.codec_payload_c_path.specs.declared.object.PathObject.TheVariants as objects
use Rattle.codec_payload_c.proofs.fec.cpay_packet_store_new.Goals as goal

-- src/fec.rt:28:1
pub returns-in-Ok-new-2 : goal.returns-in-Ok-new-2
returns-in-Ok-new-2 c =
    let made : IsStoreOf c.args.bytes (objects.PacketStore c.in-Ok-new.store) = c.in-Ok-new.ensures.ok ∙ c.in-Ok.ensures in
    let held : IsStoreOf c.args.bytes c.in-Ok-new-2.object.value = subst (λ (o : PathObject). IsStoreOf c.args.bytes o) (sym c.in-Ok-new-2.ensures.ok) made in
    let none : None ≡ c.args.handle.now.place.value = search rules in
    subst (λ (after : Option PathObject). Makes (IsStoreOf c.args.bytes) true c.args.handle.now.place.value 0 after) (sym c.put-in-Ok-new-2.ensures)
    (subst (λ (before : Option PathObject). Makes (IsStoreOf c.args.bytes) true before 0 (Some c.in-Ok-new-2.object.value)) none (refl, refl, held))
