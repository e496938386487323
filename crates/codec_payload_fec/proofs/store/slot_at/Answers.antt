use Rattle.std.proofs.Common.{ℕ, List, Some, ◌∙◌, sym, ap}
use Rattle.codec_payload_fec.specs.Stores.{slot_of}
use Rattle.codec_payload_fec.proofs.StoreLemmas.{counted, former, slot_at}
use Rattle.codec_payload_fec.proofs.store.slot_at.Goals as goal
use Rattle.codec_payload_fec.proofs.store.slot_at.Goals.{in_default-via-in-Some+else-slot-clears, in_default-via-in_default}

pub returns-in-Some : goal.returns-in-Some
returns-in-Some c =
    sym (slot_at c.args.clears c.args.slots.now c.args.place c.index-slots-place.result c.requires ∙ ap (slot_of c.args.clears) (sym c.index-slots-place.is)
    ∙ ap (slot_of c.args.clears) c.in-Some.is ∙ counted c.args.clears c.in-Some.slot c.if-slot-clears.true ∙ ap (λ (xs : List ℕ). Some xs) (sym c.as_slice.ensures.value))

pub returns-in_default : goal.returns-in_default
returns-in_default c =
    let at = slot_at c.args.clears c.args.slots.now c.args.place c.index-slots-place.result c.requires ∙ ap (slot_of c.args.clears) (sym c.index-slots-place.is) in
    elim c.in_default.branch [
      | in_default-via-in-Some+else-slot-clears w ↦ sym (at ∙ ap (slot_of c.args.clears) w.in-Some.is ∙ former c.args.clears w.in-Some.slot w.if-slot-clears.false)
      | in_default-via-in_default w ↦ sym (at ∙ ap (slot_of c.args.clears) w.in_default.is)
    ]
