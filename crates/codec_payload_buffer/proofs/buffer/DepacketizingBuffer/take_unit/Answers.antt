use Rattle.std.proofs.Common.{inl, inr, ◌≡◌, refl, sym, ◌∙◌, ap, map, arith, Bool, true, false, Some, Ok, Err}
use Rattle.std.specs.Prelude.{slice_range}
use Rattle.std.proofs.lemmas.Result.{err_from_is_err_and}
use Rattle.codec_payload_base.specs.declared.error.PacketError.TheVariants.{OutOfMemory}
use Rattle.codec_payload_buffer.specs.Buffer.{state_of}
use Rattle.codec_payload_contiguity.specs.ContiguityTable.{checked}
use Rattle.codec_payload_codec.specs.Depacketizers.{depacketizer_state_of, is_built_in_depacketizer}
use Rattle.codec_payload_buffer.specs.Held.{held_of}
use Rattle.codec_payload_buffer.specs.Steps.{State, Unpacked, due_of, packets_of_frame, metas_of, follows}
use Rattle.codec_payload_codec.proofs.CaseLemmas.{not_both}
use Rattle.codec_payload_buffer.proofs.PopLemmas.{order_due, due_whole, due_metas, due_time}
use Rattle.codec_payload_buffer.proofs.OwnLemmas.{own_gives}
use Rattle.codec_payload_codec.proofs.CodecLemmas.{own_depacketizer}
use Rattle.codec_payload_buffer.proofs.TakeLemmas.{gives_of, released, skipped_over, refused, stalled}
use Rattle.codec_payload_buffer.proofs.RangeLemmas.{slice-map}
use Rattle.codec_payload_buffer.proofs.buffer.DepacketizingBuffer.take_unit.Goals.{then-starts_next, else-starts_next}
use Rattle.codec_payload_buffer.proofs.buffer.DepacketizingBuffer.take_unit.Goals as goal

pub frame_range-from-requires-clause-order : goal.frame_range-from-requires-clause-order
frame_range-from-requires-clause-order g c = order_due c.args.self.now c.args.frame c.requires

pub frame_range-from-requires-clause-whole : goal.frame_range-from-requires-clause-whole
frame_range-from-requires-clause-whole g c =
    let s = state_of c.self.inside in
    due_whole s c.args.frame c.self.invariant.sound.rises (ap due_of c.self.view_is ∙ c.requires)

pub returns-in_err-reserve_exact-clause-takes : goal.returns-in_err-reserve_exact-clause-takes
returns-in_err-reserve_exact-clause-takes g c =
    let exit = err_from_is_err_and c.from_residual.result c.from_residual.ensures.1 in
    rw (exit.1, exit.2) (inl (refl, record { frame = c.args.frame; is_due = c.requires; depacketizer = c.args.self.now.depacketizer; reached = inl refl; left = refl }))

pub returns-in_err-make_room_for-clause-takes : goal.returns-in_err-make_room_for-clause-takes
returns-in_err-make_room_for-clause-takes g c =
    let exit = err_from_is_err_and c.from_residual-in_err-make_room_for.result c.from_residual-in_err-make_room_for.ensures.1 in
    rw (exit.1, exit.2) (inl (refl, record { frame = c.args.frame; is_due = c.requires; depacketizer = c.args.self.now.depacketizer; reached = inl refl; left = refl }))

pub returns-then-is_out_of_memory-clause-takes : goal.returns-then-is_out_of_memory-clause-takes
returns-then-is_out_of_memory-clause-takes g c =
    let s = state_of c.self.inside in
    let due : due_of s ≡ Some c.args.frame = ap due_of c.self.view_is ∙ c.requires in
    let packets = map held_of (slice_range c.self.inside.packets.items c.frame_range-from.result.0 c.frame_range-from.result.1) in
    let e = depacketizer_state_of c.unpack_frame-unpacked.new.depacketizer in
    let wanting : c.unpack_frame-unpacked.result ≡ Err OutOfMemory = c.is_out_of_memory.ensures.0 c.if-is_out_of_memory.true in
    stalled s c.args.self.now c.self.view_is c.args.frame due e _ refl
    (gives_of s c.args.frame packets c.make_room_for.new.bytes.items (Err OutOfMemory) e c.frame_range-from.ensures.part c.make_room_for.ensures.empty (rw wanting at c.unpack_frame-unpacked.ensures.unpacks))

pub leave_to-requires-clause-end : goal.leave_to-requires-clause-end
leave_to-requires-clause-end g c = c.frame_range-from.ensures.end

pub returns-in_err-unpacked-clause-takes : goal.returns-in_err-unpacked-clause-takes
returns-in_err-unpacked-clause-takes g c =
    let s = state_of c.self.inside in
    let due : due_of s ≡ Some c.args.frame = ap due_of c.self.view_is ∙ c.requires in
    let packets = map held_of (slice_range c.self.inside.packets.items c.frame_range-from.result.0 c.frame_range-from.result.1) in
    let e = depacketizer_state_of c.unpack_frame-unpacked.new.depacketizer in
    let fault = c.in_err-unpacked.field-0.0 in
    let exit = err_from_is_err_and c.from_residual-in_err-unpacked.result c.from_residual-in_err-unpacked.ensures.1 in
    rw (exit.1, exit.2)
    (refused s c.args.self.now c.self.view_is c.args.frame due e _ fault c.leave_to.ensures.left
    (λ is. not_both c.is_out_of_memory.result (c.is_out_of_memory.ensures.1 (c.in_err-unpacked.was ∙ ap Err is)) c.if-is_out_of_memory.false)
    (gives_of s c.args.frame packets c.make_room_for.new.bytes.items (Err fault) e c.frame_range-from.ensures.part c.make_room_for.ensures.empty
    (rw c.in_err-unpacked.was at c.unpack_frame-unpacked.ensures.unpacks)))

pub index-requires : goal.index-requires
index-requires g c =
    let s = state_of c.self.inside in
    let due : due_of s ≡ Some c.args.frame = ap due_of c.self.view_is ∙ c.requires in
    let metas : c.leave_to.new.metas.items ≡ metas_of (packets_of_frame s c.args.frame) = c.leave_to.ensures.metas ∙ ap metas_of (slice-map c.self.inside.packets.items c.frame_range-from.result.0 c.frame_range-from.result.1 ∙ c.frame_range-from.ensures.part) in
    omega (arith, due_metas s c.args.frame c.leave_to.new.metas.items c.self.invariant.sound.rises due metas, c.leave_to.new.metas.ok.0)

pub returns-clause-some : goal.returns-clause-some
returns-clause-some g c =
    let s = state_of c.self.inside in
    let due : due_of s ≡ Some c.args.frame = ap due_of c.self.view_is ∙ c.requires in
    let metas : c.leave_to.new.metas.items ≡ metas_of (packets_of_frame s c.args.frame) = c.leave_to.ensures.metas ∙ ap metas_of (slice-map c.self.inside.packets.items c.frame_range-from.result.0 c.frame_range-from.result.1 ∙ c.frame_range-from.ensures.part) in
    due_metas s c.args.frame c.leave_to.new.metas.items c.self.invariant.sound.rises due metas

pub returns-then-not-may_go-clause-some : goal.returns-then-not-may_go-clause-some
returns-then-not-may_go-clause-some g c =
    let s = state_of c.self.inside in
    let due : due_of s ≡ Some c.args.frame = ap due_of c.self.view_is ∙ c.requires in
    let metas : c.leave_to.new.metas.items ≡ metas_of (packets_of_frame s c.args.frame) = c.leave_to.ensures.metas ∙ ap metas_of (slice-map c.self.inside.packets.items c.frame_range-from.result.0 c.frame_range-from.result.1 ∙ c.frame_range-from.ensures.part) in
    due_metas s c.args.frame c.leave_to.new.metas.items c.self.invariant.sound.rises due metas

pub returns-then-not-may_go-clause-takes : goal.returns-then-not-may_go-clause-takes
returns-then-not-may_go-clause-takes g c =
    let s = state_of c.self.inside in
    let frame = c.args.frame in
    let due : due_of s ≡ Some frame = ap due_of c.self.view_is ∙ c.requires in
    let packets = map held_of (slice_range c.self.inside.packets.items c.frame_range-from.result.0 c.frame_range-from.result.1) in
    let unpacked : Unpacked = record { bytes = c.unpack_frame-unpacked.new.bytes.items; extra = c.unpack_frame-unpacked.new.codec_extra } in
    let e = depacketizer_state_of c.unpack_frame-unpacked.new.depacketizer in
    let test : c.if-starts_next.follows ≡ follows s frame = elim c.if-starts_next.branch [
      | then-starts_next w ↦ w.follows-is ∙ rw (sym c.starts_next.ensures ∙ w.if-starts_next.true) refl
      | else-starts_next w ↦ w.follows-is ∙ w.if-starts_next.false ∙ rw (sym c.starts_next.ensures ∙ w.if-starts_next.false) refl
    ] in
    let left = c.self-2.view_is ∙ c.leave_to.ensures.left in
    let answer : checked s.contiguity unpacked.extra c.if-starts_next.follows ≡ (false, c.check-may_go.result.1, c.check-may_go.new.self) =
    ap (λ (x : State). checked x.contiguity unpacked.extra c.if-starts_next.follows) (sym left) ∙ c.check-may_go.ensures
    ∙ ap (λ (b : Bool). (b, c.check-may_go.result.1, c.check-may_go.new.self)) c.if-not-may_go.true in
    skipped_over s c.args.self.now c.self.view_is frame due e c.check-may_go.result.1 c.if-starts_next.follows c.check-may_go.new.self unpacked _
    (gives_of s frame packets c.make_room_for.new.bytes.items (Ok unpacked) e c.frame_range-from.ensures.part c.make_room_for.ensures.empty (rw c.in_ok-unpacked.was at c.unpack_frame-unpacked.ensures.unpacks))
    test answer (ap (λ (x : State). record x { contiguity = c.check-may_go.new.self }) left)

pub returns-clause-takes : goal.returns-clause-takes
returns-clause-takes g c =
    let s = state_of c.self.inside in
    let frame = c.args.frame in
    let due : due_of s ≡ Some frame = ap due_of c.self.view_is ∙ c.requires in
    let packets = map held_of (slice_range c.self.inside.packets.items c.frame_range-from.result.0 c.frame_range-from.result.1) in
    let metas : c.leave_to.new.metas.items ≡ metas_of (packets_of_frame s frame) = c.leave_to.ensures.metas ∙ ap metas_of (slice-map c.self.inside.packets.items c.frame_range-from.result.0 c.frame_range-from.result.1 ∙ c.frame_range-from.ensures.part) in
    let unpacked : Unpacked = record { bytes = c.unpack_frame-unpacked.new.bytes.items; extra = c.unpack_frame-unpacked.new.codec_extra } in
    let e = depacketizer_state_of c.unpack_frame-unpacked.new.depacketizer in
    let test : c.if-starts_next.follows ≡ follows s frame = elim c.if-starts_next.branch [
      | then-starts_next w ↦ w.follows-is ∙ rw (sym c.starts_next.ensures ∙ w.if-starts_next.true) refl
      | else-starts_next w ↦ w.follows-is ∙ w.if-starts_next.false ∙ rw (sym c.starts_next.ensures ∙ w.if-starts_next.false) refl
    ] in
    let left = c.self-2.view_is ∙ c.leave_to.ensures.left in
    let answer : checked s.contiguity unpacked.extra c.if-starts_next.follows ≡ (true, c.check-may_go.result.1, c.check-may_go.new.self) =
    ap (λ (x : State). checked x.contiguity unpacked.extra c.if-starts_next.follows) (sym left) ∙ c.check-may_go.ensures
    ∙ ap (λ (b : Bool). (b, c.check-may_go.result.1, c.check-may_go.new.self)) c.if-not-may_go.false in
    released s c.args.self.now c.self.view_is frame due e _ c.time-unit-inside.result c.check-may_go.result.1 c.if-starts_next.follows c.check-may_go.new.self unpacked c.leave_to.new.metas.items _
    refl
    (gives_of s frame packets c.make_room_for.new.bytes.items (Ok unpacked) e c.frame_range-from.ensures.part c.make_room_for.ensures.empty (rw c.in_ok-unpacked.was at c.unpack_frame-unpacked.ensures.unpacks))
    (rw c.time-unit-inside.ensures (due_time s frame c.leave_to.new.metas.items c.index.result.now c.self.invariant.sound.rises due metas c.index.ensures))
    metas test answer (ap (λ (x : State). record x { contiguity = c.check-may_go.new.self; evicted = false }) left)

pub returns-in_err-reserve_exact-clause-own : goal.returns-in_err-reserve_exact-clause-own
returns-in_err-reserve_exact-clause-own g c = λ other.
    let exit = err_from_is_err_and c.from_residual.result c.from_residual.ensures.1 in
    let view : depacketizer_state_of c.self.inside.depacketizer ≡ c.args.self.now.depacketizer = ap (λ (s : State). s.depacketizer) c.self.view_is in
    let before = own_depacketizer c.self.inside.depacketizer (ap is_built_in_depacketizer view ∙ other) in
    (before.0, before.0, rw (exit.1, exit.2) (inl (refl, refl)))

pub returns-in_err-make_room_for-clause-own : goal.returns-in_err-make_room_for-clause-own
returns-in_err-make_room_for-clause-own g c = λ other.
    let exit = err_from_is_err_and c.from_residual-in_err-make_room_for.result c.from_residual-in_err-make_room_for.ensures.1 in
    let view : depacketizer_state_of c.self.inside.depacketizer ≡ c.args.self.now.depacketizer = ap (λ (s : State). s.depacketizer) c.self.view_is in
    let before = own_depacketizer c.self.inside.depacketizer (ap is_built_in_depacketizer view ∙ other) in
    (before.0, before.0, rw (exit.1, exit.2) (inl (refl, refl)))

pub returns-then-is_out_of_memory-clause-own : goal.returns-then-is_out_of_memory-clause-own
returns-then-is_out_of_memory-clause-own g c = λ other.
    let wanting : c.unpack_frame-unpacked.result ≡ Err OutOfMemory = c.is_out_of_memory.ensures.0 c.if-is_out_of_memory.true in
    let view : depacketizer_state_of c.self.inside.depacketizer ≡ c.args.self.now.depacketizer = ap (λ (s : State). s.depacketizer) c.self.view_is in
    let before = own_depacketizer c.self.inside.depacketizer (ap is_built_in_depacketizer view ∙ other) in
    let packets = map held_of (slice_range c.self.inside.packets.items c.frame_range-from.result.0 c.frame_range-from.result.1) in
    let own = c.unpack_frame-unpacked.ensures.own before.0 before.1 in (
      before.0,
      own.0,
      inr (own_gives g.B.Depacketizer.state g.B.Depacketizer.depacketize_step
          (state_of c.self.inside) c.args.self.now c.args.frame packets c.make_room_for.new.bytes.items
          (Err OutOfMemory) before.0 own.0 c.frame_range-from.ensures.part c.self.view_is c.make_room_for.ensures.empty (rw wanting at own.2)),
    )

pub returns-in_err-unpacked-clause-own : goal.returns-in_err-unpacked-clause-own
returns-in_err-unpacked-clause-own g c = λ other.
    let exit = err_from_is_err_and c.from_residual-in_err-unpacked.result c.from_residual-in_err-unpacked.ensures.1 in
    let view : depacketizer_state_of c.self.inside.depacketizer ≡ c.args.self.now.depacketizer = ap (λ (s : State). s.depacketizer) c.self.view_is in
    let before = own_depacketizer c.self.inside.depacketizer (ap is_built_in_depacketizer view ∙ other) in
    let packets = map held_of (slice_range c.self.inside.packets.items c.frame_range-from.result.0 c.frame_range-from.result.1) in
    let own = c.unpack_frame-unpacked.ensures.own before.0 before.1 in (
      before.0,
      own.0,
      rw (exit.1, exit.2) (inr (own_gives g.B.Depacketizer.state g.B.Depacketizer.depacketize_step
          (state_of c.self.inside) c.args.self.now c.args.frame packets c.make_room_for.new.bytes.items
          (Err c.in_err-unpacked.field-0.0) before.0 own.0 c.frame_range-from.ensures.part c.self.view_is c.make_room_for.ensures.empty (rw c.in_err-unpacked.was at own.2))),
    )

pub returns-then-not-may_go-clause-own : goal.returns-then-not-may_go-clause-own
returns-then-not-may_go-clause-own g c = λ other.
    let unpacked : Unpacked = record { bytes = c.unpack_frame-unpacked.new.bytes.items; extra = c.unpack_frame-unpacked.new.codec_extra } in
    let view : depacketizer_state_of c.self.inside.depacketizer ≡ c.args.self.now.depacketizer = ap (λ (s : State). s.depacketizer) c.self.view_is in
    let before = own_depacketizer c.self.inside.depacketizer (ap is_built_in_depacketizer view ∙ other) in
    let packets = map held_of (slice_range c.self.inside.packets.items c.frame_range-from.result.0 c.frame_range-from.result.1) in
    let own = c.unpack_frame-unpacked.ensures.own before.0 before.1 in (
      before.0,
      own.0,
      (
        unpacked,
        own_gives g.B.Depacketizer.state g.B.Depacketizer.depacketize_step
            (state_of c.self.inside) c.args.self.now c.args.frame packets c.make_room_for.new.bytes.items
            (Ok unpacked) before.0 own.0 c.frame_range-from.ensures.part c.self.view_is c.make_room_for.ensures.empty (rw c.in_ok-unpacked.was at own.2),
      ),
    )

pub returns-clause-own : goal.returns-clause-own
returns-clause-own g c = λ other.
    let unpacked : Unpacked = record { bytes = c.unpack_frame-unpacked.new.bytes.items; extra = c.unpack_frame-unpacked.new.codec_extra } in
    let view : depacketizer_state_of c.self.inside.depacketizer ≡ c.args.self.now.depacketizer = ap (λ (s : State). s.depacketizer) c.self.view_is in
    let before = own_depacketizer c.self.inside.depacketizer (ap is_built_in_depacketizer view ∙ other) in
    let packets = map held_of (slice_range c.self.inside.packets.items c.frame_range-from.result.0 c.frame_range-from.result.1) in
    let own = c.unpack_frame-unpacked.ensures.own before.0 before.1 in (
      before.0,
      own.0,
      (own_gives g.B.Depacketizer.state g.B.Depacketizer.depacketize_step
          (state_of c.self.inside) c.args.self.now c.args.frame packets c.make_room_for.new.bytes.items
          (Ok unpacked) before.0 own.0 c.frame_range-from.ensures.part c.self.view_is c.make_room_for.ensures.empty (rw c.in_ok-unpacked.was at own.2)),
    )
