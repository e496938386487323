use Rattle.std.proofs.Common.{◌≤◌, ◌%◌, ℕ, List, length, ◌∙◌, ap, refl, subst}
use Rattle.codec_payload_fec.specs.Strings.{number_of}
use Rattle.codec_payload_fec.proofs.StoreLemmas.{kept_is, stored_set}
use Rattle.codec_payload_fec.proofs.store.PacketStore.put.Goals as goal

pub invariant_of-self : goal.invariant_of-self
invariant_of-self c =
    stored_set c.self.inside.clears c.self.inside.slots.items (c.from-place.result % 512) (record { clears = c.self.inside.clears; packet = c.args.packet }) refl c.self.invariant

pub returns : goal.returns
returns c =
    let Small : List ℕ → Type 0 = λ (bs : List ℕ). length bs ≤ c.self.inside.largest in
    kept_is c.self.inside.clears c.self.inside.slots.items c.self.inside.largest c.from-place.result c.args.packet.items (record { clears = c.self.inside.clears; packet = c.args.packet }) c.args.self.now c.self.view_is
    (subst Small c.as_slice-bytes.ensures.value c.if-bytes-self.false) refl refl (c.from-place.ensures ∙ c.number_of.ensures ∙ ap number_of c.as_slice-bytes.ensures.value)
