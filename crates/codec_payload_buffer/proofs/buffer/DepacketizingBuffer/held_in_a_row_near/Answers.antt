use Rattle.std.proofs.Common.{◌≡◌, ◌+◌, true, false, map, sym, subst, ◌∙◌}
use Rattle.codec_payload_buffer.specs.Held.{held_of, has_number}
use Rattle.codec_payload_buffer.specs.HeldRows.{AreHeldFrom}
use Rattle.codec_payload_buffer.specs.Steps.{State}
use Rattle.codec_payload_buffer.proofs.HeldRowLemmas.{found, row_is_held, row_ends}
use Rattle.codec_payload_buffer.proofs.buffer.DepacketizingBuffer.held_in_a_row_near.Goals as goal

pub row_from-count-requires-clause-place : goal.row_from-count-requires-clause-place
row_from-count-requires-clause-place g c =
    let held : has_number c.args.number.0 (map held_of c.self.inside.packets.items) ≡ true = sym c.is_at.ensures ∙ c.if-is_at.true in
    (found c.args.number.0 c.self.inside.packets.items c.find_place_near-here.result c.self.invariant.sound.rises held c.find_place_near-here.ensures).within

pub returns-then-is_at-clause-held : goal.returns-then-is_at-clause-held
returns-then-is_at-clause-held g c =
    let held : has_number c.args.number.0 (map held_of c.self.inside.packets.items) ≡ true = sym c.is_at.ensures ∙ c.if-is_at.true in
    let at = found c.args.number.0 c.self.inside.packets.items c.find_place_near-here.result c.self.invariant.sound.rises held c.find_place_near-here.ensures in
    subst (λ (s : State). AreHeldFrom c.args.number.0 c.row_from-count.result s.held) c.self.view_is (row_is_held c.args.number.0 c.row_from-count.result c.self.inside.packets.items c.find_place_near-here.result c.row_from-count.ensures at.is)

pub returns-then-is_at-clause-end : goal.returns-then-is_at-clause-end
returns-then-is_at-clause-end g c =
    let held : has_number c.args.number.0 (map held_of c.self.inside.packets.items) ≡ true = sym c.is_at.ensures ∙ c.if-is_at.true in
    let at = found c.args.number.0 c.self.inside.packets.items c.find_place_near-here.result c.self.invariant.sound.rises held c.find_place_near-here.ensures in
    subst (λ (s : State). has_number (c.args.number.0 + c.row_from-count.result) s.held ≡ false) c.self.view_is (row_ends c.args.number.0 c.row_from-count.result c.self.inside.packets.items c.find_place_near-here.result c.self.invariant.sound.rises c.row_from-count.ensures at.is)
