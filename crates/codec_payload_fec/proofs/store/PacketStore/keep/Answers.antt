use Rattle.std.proofs.Common.{◌%◌, ◌∙◌, refl}
use Rattle.codec_payload_fec.proofs.StoreLemmas.{kept_is, stored_set}
use Rattle.codec_payload_fec.proofs.store.PacketStore.keep.Goals as goal

pub invariant_of-self : goal.invariant_of-self
invariant_of-self c =
    stored_set c.self.inside.clears c.self.inside.slots.items (c.from-place.result % 512) (record { clears = c.self.inside.clears; packet = c.in_ok-copy.copy }) refl c.self.invariant

pub returns-clause-ok : goal.returns-clause-ok
returns-clause-ok c =
    kept_is c.self.inside.clears c.self.inside.slots.items c.self.inside.largest c.from-place.result c.args.packet.now (record { clears = c.self.inside.clears; packet = c.in_ok-copy.copy }) c.args.self.now c.self.view_is c.if-packet-self.false refl
    c.in_ok-copy.ensures.items (c.from-place.ensures ∙ c.number_of.ensures)
