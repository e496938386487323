use Rattle.std.proofs.Common.{◌∙◌, ap, sym, refl, subst, arith, ℕ, ◌≤◌, length}
use Rattle.codec_payload_core.specs.Packetizers.{is_built_in, nackable_of, packetizer_state_of}
use Rattle.codec_payload_c_packets.proofs.WholeLemmas.{is_some_length, lays_one, placed_one, within}
use Rattle.codec_payload_c_packets.proofs.whole_frames.hand_over_whole.Goals as goal

pub returns-clause-lays : goal.returns-clause-lays
returns-clause-lays c =
    let p = packetizer_state_of c.args.packetizer.now in
    lays_one p c.args.frame.now.cut.now c.args.frame.now.bytes.now c.args.bytes.now c.put_at.new.bytes c.args.packets.now _ _ c.size_of_one.ensures refl
    (within _ (length c.args.bytes.now) (subst (λ (n : ℕ). n ≤ length c.args.bytes.now) c.size_of_one.ensures c.if-bytes-room.false) (omega arith))
    (is_some_length c.args.packets.now (sym c.is_empty.ensures ∙ c.if-is_empty.false)) c.put_at.ensures
    (placed_one p c.args.frame.now.cut.now c.args.frame.now.bytes.now c.is_one_marked.result c.nackable.result (c.is_one_marked.ensures.marker c.requires)
    (c.nackable.ensures.built_in (ap is_built_in c.is_one_marked.ensures.same ∙ c.requires) ∙ ap nackable_of c.is_one_marked.ensures.same))
