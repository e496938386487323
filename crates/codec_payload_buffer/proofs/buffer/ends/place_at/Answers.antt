use Rattle.std.proofs.Common.{◌∙◌, ap, arith, length, map, refl, subst, sym}
use Rattle.std.proofs.lemmas.List.{length-map}
use Rattle.std.specs.List.{insert}
use Rattle.codec_payload_queue.specs.Tiers.{Queue}
use Rattle.codec_payload_buffer.specs.declared.buffer.held_packet.HeldPacket.{HeldPacket}
use Rattle.codec_payload_buffer.specs.Held.{held_of}
use Rattle.codec_payload_buffer.specs.Ends.{mark_of}
use Rattle.codec_payload_buffer.proofs.PlaceLemmas.{place_within, length_placed}
use Rattle.codec_payload_buffer.proofs.RowEnds.{row_is_placed}
use Rattle.codec_payload_buffer.proofs.PlacedEnds.{IsPut, IsFirstNoted, put_row, first_is_put, first_is_written, last_is_put, last_is_written, rows_are_told}
use Rattle.codec_payload_buffer.proofs.buffer.ends.place_at.Goals as goal
use Rattle.codec_payload_buffer.proofs.buffer.ends.place_at.Goals.{then-before-gt0, else-before-gt0}

pub overflow_sub-before : goal.overflow_sub-before
overflow_sub-before c =
    let xs = c.args.packets.now.items in
    (row_is_placed xs (insert xs c.args.place c.args.packet) c.args.place c.args.packet c.args.row c.requires.rises c.requires.place c.requires.fresh refl c.requires.row).low

pub overflow_sub-after : goal.overflow_sub-after
overflow_sub-after c =
    let xs = c.args.packets.now.items in
    (row_is_placed xs (insert xs c.args.place c.args.packet) c.args.place c.args.packet c.args.row c.requires.rises c.requires.place c.requires.fresh refl c.requires.row).high

pub insert-requires-clause-place : goal.insert-requires-clause-place
insert-requires-clause-place c =
    let xs = c.args.packets.now.items in
    omega (arith, c.requires.place, place_within c.args.packet.number (map held_of xs), length-map xs held_of)

pub overflow_sub-place : goal.overflow_sub-place
overflow_sub-place c =
    let xs = c.args.packets.now.items in
    let new = c.insert.new.self.items in
    let put : IsPut xs new c.args.place c.args.packet c.noted-packet.result c.args.row = record {
      rises = c.requires.rises;
      place_is = c.requires.place;
      fresh = c.requires.fresh;
      held = c.noted-packet.ensures.held;
      mark = c.noted-packet.ensures.mark;
      put = c.insert.ensures.items;
      row = c.requires.row;
    } in
    let row = put_row xs new c.args.place c.args.packet c.noted-packet.result c.args.row put in
    row.room

pub set_mark-requires : goal.set_mark-requires
set_mark-requires c =
    let xs = c.args.packets.now.items in
    let new = c.insert.new.self.items in
    let put : IsPut xs new c.args.place c.args.packet c.noted-packet.result c.args.row = record {
      rises = c.requires.rises;
      place_is = c.requires.place;
      fresh = c.requires.fresh;
      held = c.noted-packet.ensures.held;
      mark = c.noted-packet.ensures.mark;
      put = c.insert.ensures.items;
      row = c.requires.row;
    } in
    let row = put_row xs new c.args.place c.args.packet c.noted-packet.result c.args.row put in
    omega (arith, row.within, row.room, ap length row.held, length_placed (held_of c.args.packet) (map held_of xs), length-map new held_of, length-map xs held_of, row.high)

pub overflow_add-place : goal.overflow_add-place
overflow_add-place c =
    let xs = c.args.packets.now.items in
    let new = c.insert.new.self.items in
    let put : IsPut xs new c.args.place c.args.packet c.noted-packet.result c.args.row = record {
      rises = c.requires.rises;
      place_is = c.requires.place;
      fresh = c.requires.fresh;
      held = c.noted-packet.ensures.held;
      mark = c.noted-packet.ensures.mark;
      put = c.insert.ensures.items;
      row = c.requires.row;
    } in
    let row = put_row xs new c.args.place c.args.packet c.noted-packet.result c.args.row put in
    omega (arith, row.within, c.requires.few)

pub set_mark-requires-then-after-gt0 : goal.set_mark-requires-then-after-gt0
set_mark-requires-then-after-gt0 c =
    let xs = c.args.packets.now.items in
    let new = c.insert.new.self.items in
    let put : IsPut xs new c.args.place c.args.packet c.noted-packet.result c.args.row = record {
      rises = c.requires.rises;
      place_is = c.requires.place;
      fresh = c.requires.fresh;
      held = c.noted-packet.ensures.held;
      mark = c.noted-packet.ensures.mark;
      put = c.insert.ensures.items;
      row = c.requires.row;
    } in
    let row = put_row xs new c.args.place c.args.packet c.noted-packet.result c.args.row put in
    let first : IsFirstNoted c.args.row new c.if-before-gt0.packets.items = elim c.if-before-gt0.branch [
      | then-before-gt0 w ↦ subst (λ (q : Queue HeldPacket). IsFirstNoted c.args.row new q.items) (sym w.packets-is)
          (first_is_written xs new _ c.args.place _ c.args.packet c.noted-packet.result c.args.row put w.if-before-gt0.true refl w.set_mark.ensures.held w.set_mark.ensures.marks)
      | else-before-gt0 w ↦ subst (λ (q : Queue HeldPacket). IsFirstNoted c.args.row new q.items) (sym w.packets-is)
          (first_is_put xs new c.args.place c.args.packet c.noted-packet.result c.args.row put w.if-before-gt0.false)
    ] in
    let mid = c.if-before-gt0.packets.items in
    omega (
      arith,
      row.within,
      ap length row.held,
      ap length first.held,
      length_placed (held_of c.args.packet) (map held_of xs),
      length-map mid held_of,
      length-map new held_of,
      length-map xs held_of,
    )

pub returns-then-after-gt0-clause-held : goal.returns-then-after-gt0-clause-held
returns-then-after-gt0-clause-held c =
    let xs = c.args.packets.now.items in
    let new = c.insert.new.self.items in
    let put : IsPut xs new c.args.place c.args.packet c.noted-packet.result c.args.row = record {
      rises = c.requires.rises;
      place_is = c.requires.place;
      fresh = c.requires.fresh;
      held = c.noted-packet.ensures.held;
      mark = c.noted-packet.ensures.mark;
      put = c.insert.ensures.items;
      row = c.requires.row;
    } in
    let row = put_row xs new c.args.place c.args.packet c.noted-packet.result c.args.row put in
    let first : IsFirstNoted c.args.row new c.if-before-gt0.packets.items = elim c.if-before-gt0.branch [
      | then-before-gt0 w ↦ subst (λ (q : Queue HeldPacket). IsFirstNoted c.args.row new q.items) (sym w.packets-is)
          (first_is_written xs new _ c.args.place _ c.args.packet c.noted-packet.result c.args.row put w.if-before-gt0.true refl w.set_mark.ensures.held w.set_mark.ensures.marks)
      | else-before-gt0 w ↦ subst (λ (q : Queue HeldPacket). IsFirstNoted c.args.row new q.items) (sym w.packets-is)
          (first_is_put xs new c.args.place c.args.packet c.noted-packet.result c.args.row put w.if-before-gt0.false)
    ] in
    c.set_mark-then-after-gt0.ensures.held ∙ first.held ∙ row.held

pub returns-then-after-gt0-clause-told : goal.returns-then-after-gt0-clause-told
returns-then-after-gt0-clause-told c =
    let xs = c.args.packets.now.items in
    let new = c.insert.new.self.items in
    let put : IsPut xs new c.args.place c.args.packet c.noted-packet.result c.args.row = record {
      rises = c.requires.rises;
      place_is = c.requires.place;
      fresh = c.requires.fresh;
      held = c.noted-packet.ensures.held;
      mark = c.noted-packet.ensures.mark;
      put = c.insert.ensures.items;
      row = c.requires.row;
    } in
    let row = put_row xs new c.args.place c.args.packet c.noted-packet.result c.args.row put in
    let first : IsFirstNoted c.args.row new c.if-before-gt0.packets.items = elim c.if-before-gt0.branch [
      | then-before-gt0 w ↦ subst (λ (q : Queue HeldPacket). IsFirstNoted c.args.row new q.items) (sym w.packets-is)
          (first_is_written xs new _ c.args.place _ c.args.packet c.noted-packet.result c.args.row put w.if-before-gt0.true refl w.set_mark.ensures.held w.set_mark.ensures.marks)
      | else-before-gt0 w ↦ subst (λ (q : Queue HeldPacket). IsFirstNoted c.args.row new q.items) (sym w.packets-is)
          (first_is_put xs new c.args.place c.args.packet c.noted-packet.result c.args.row put w.if-before-gt0.false)
    ] in
    let mid = c.if-before-gt0.packets.items in
    let marks = map mark_of c.set_mark-then-after-gt0.new.packets.items in
    let written = last_is_written xs new mid c.args.place _ c.args.packet c.noted-packet.result c.args.row marks put first c.if-after-gt0.true refl c.set_mark-then-after-gt0.ensures.marks in
    rw (c.set_mark-then-after-gt0.ensures.held ∙ first.held ∙ row.held) (rows_are_told xs new c.args.place c.args.packet c.noted-packet.result c.args.row marks put c.requires.told written)

pub returns-else-after-gt0-clause-held : goal.returns-else-after-gt0-clause-held
returns-else-after-gt0-clause-held c =
    let xs = c.args.packets.now.items in
    let new = c.insert.new.self.items in
    let put : IsPut xs new c.args.place c.args.packet c.noted-packet.result c.args.row = record {
      rises = c.requires.rises;
      place_is = c.requires.place;
      fresh = c.requires.fresh;
      held = c.noted-packet.ensures.held;
      mark = c.noted-packet.ensures.mark;
      put = c.insert.ensures.items;
      row = c.requires.row;
    } in
    let row = put_row xs new c.args.place c.args.packet c.noted-packet.result c.args.row put in
    let first : IsFirstNoted c.args.row new c.if-before-gt0.packets.items = elim c.if-before-gt0.branch [
      | then-before-gt0 w ↦ subst (λ (q : Queue HeldPacket). IsFirstNoted c.args.row new q.items) (sym w.packets-is)
          (first_is_written xs new _ c.args.place _ c.args.packet c.noted-packet.result c.args.row put w.if-before-gt0.true refl w.set_mark.ensures.held w.set_mark.ensures.marks)
      | else-before-gt0 w ↦ subst (λ (q : Queue HeldPacket). IsFirstNoted c.args.row new q.items) (sym w.packets-is)
          (first_is_put xs new c.args.place c.args.packet c.noted-packet.result c.args.row put w.if-before-gt0.false)
    ] in
    first.held ∙ row.held

pub returns-else-after-gt0-clause-told : goal.returns-else-after-gt0-clause-told
returns-else-after-gt0-clause-told c =
    let xs = c.args.packets.now.items in
    let new = c.insert.new.self.items in
    let put : IsPut xs new c.args.place c.args.packet c.noted-packet.result c.args.row = record {
      rises = c.requires.rises;
      place_is = c.requires.place;
      fresh = c.requires.fresh;
      held = c.noted-packet.ensures.held;
      mark = c.noted-packet.ensures.mark;
      put = c.insert.ensures.items;
      row = c.requires.row;
    } in
    let row = put_row xs new c.args.place c.args.packet c.noted-packet.result c.args.row put in
    let first : IsFirstNoted c.args.row new c.if-before-gt0.packets.items = elim c.if-before-gt0.branch [
      | then-before-gt0 w ↦ subst (λ (q : Queue HeldPacket). IsFirstNoted c.args.row new q.items) (sym w.packets-is)
          (first_is_written xs new _ c.args.place _ c.args.packet c.noted-packet.result c.args.row put w.if-before-gt0.true refl w.set_mark.ensures.held w.set_mark.ensures.marks)
      | else-before-gt0 w ↦ subst (λ (q : Queue HeldPacket). IsFirstNoted c.args.row new q.items) (sym w.packets-is)
          (first_is_put xs new c.args.place c.args.packet c.noted-packet.result c.args.row put w.if-before-gt0.false)
    ] in
    let mid = c.if-before-gt0.packets.items in
    let written = last_is_put xs new mid c.args.place c.args.packet c.noted-packet.result c.args.row put first c.if-after-gt0.false in
    rw (first.held ∙ row.held) (rows_are_told xs new c.args.place c.args.packet c.noted-packet.result c.args.row (map mark_of mid) put c.requires.told written)
