use Rattle.std.proofs.Common.{◌≡◌, ℕ, List, Option, length, ◌∙◌, ap, sym, subst, None, replicate, rules}
use Rattle.std.specs.Vec.{with_items}
use Rattle.std.proofs.lemmas.List.{with_items_is}
use Rattle.codec_payload_fec.specs.Stores.{IsStored, Store, no_slots, slots_of}
use Rattle.codec_payload_fec.specs.declared.store.Slot.{Slot}
use Rattle.codec_payload_fec.proofs.StoreLemmas.{cleared, cleared_once, stored_more}
use Rattle.codec_payload_fec.proofs.store.PacketStore.clear.Goals as goal

pub invariant_of-self : goal.invariant_of-self
invariant_of-self c = subst (λ (n : ℕ). IsStored n c.self.inside.slots.items) (sym c.in-Some.ensures.1) (stored_more c.self.inside.clears c.self.inside.slots.items c.self.invariant)

pub returns-in-Some : goal.returns-in-Some
returns-in-Some c =
    ap (λ (n : ℕ). record { slots = slots_of n c.self.inside.slots.items; largest = c.self.inside.largest }) c.in-Some.ensures.1
    ∙ cleared_once c.self.inside.clears c.self.inside.slots.items c.self.inside.largest c.self.invariant
    ∙ ap (λ (t : Store). record { slots = no_slots; largest = t.largest }) c.self.view_is

pub returns-in-None : goal.returns-in-None
returns-in-None c =
    let size : length c.empty.new.slots ≡ c.self.inside.slots.len = search rules in
    let same = with_items_is c.self.inside.slots c.empty.new.slots size in
    let none = same ∙ c.empty.ensures ∙ ap (λ (ss : List (Option Slot)). replicate (length ss) None) c.as_mut_slice.ensures.value ∙ ap (λ (n : ℕ). replicate n None) c.self.invariant.0 in
    cleared 0 (with_items c.self.inside.slots c.empty.new.slots).items c.self.inside.largest none ∙ ap (λ (t : Store). record { slots = no_slots; largest = t.largest }) c.self.view_is
