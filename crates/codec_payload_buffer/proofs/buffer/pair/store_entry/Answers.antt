use Rattle.std.proofs.Common.{◌≡◌, ◌∙◌, ◌<◌, List, ap, sym, subst, arith, false, length, map}
use Rattle.std.proofs.lemmas.List.{length-map}
use Rattle.std.specs.Prelude.{IfSome}
use Rattle.codec_payload_buffer.specs.Frames.{frames}
use Rattle.codec_payload_buffer.specs.declared.buffer.frames.CompleteFrame.{CompleteFrame}
use Rattle.codec_payload_buffer.specs.Held.{Held, Rises, has_number, held_of, number_of}
use Rattle.codec_payload_buffer.specs.Rows.{first_mended, merged, row_of, rows}
use Rattle.codec_payload_buffer.specs.declared.buffer.rows.Row.{Row}
use Rattle.codec_payload_buffer.proofs.FrameEnds.{few_frames}
use Rattle.codec_payload_buffer.proofs.IndexLemmas.{complete_frames_rise, pushed_frames}
use Rattle.codec_payload_buffer.proofs.PlaceLemmas.{length_placed, lowest_out, placed_rises}
use Rattle.codec_payload_buffer.proofs.buffer.pair.store_entry.Goals as goal

pub note-requires-clause-rises : goal.note-requires-clause-rises
note-requires-clause-rises c = complete_frames_rise (map held_of c.args.packets.now.items) c.args.complete.now.items c.requires.rises c.requires.complete

pub note-requires-clause-few : goal.note-requires-clause-few
note-requires-clause-few c =
    let items = c.args.packets.now.items in
    omega (arith, ap length c.requires.complete, few_frames (map held_of items), length-map items held_of, c.requires.few, c.requires.most)

pub returns-then-len-bounds-clause-rises : goal.returns-then-len-bounds-clause-rises
returns-then-len-bounds-clause-rises c =
    let hs = map held_of c.args.packets.now.items in
    let p : Held = held_of c.args.entry in
    let fresh : has_number (number_of p) hs ≡ false = ap (λ k. has_number k hs) (sym c.args.entry.numbered) ∙ sym c.is_at.ensures ∙ c.if-is_at.false in
    rw c.place_at.ensures.held (placed_rises p hs c.requires.rises fresh)

pub returns-then-len-bounds-clause-complete : goal.returns-then-len-bounds-clause-complete
returns-then-len-bounds-clause-complete c =
    let hs = map held_of c.args.packets.now.items in
    let new = map held_of c.place_at.new.packets.items in
    let p : Held = held_of c.args.entry in
    let fresh : has_number (number_of p) hs ≡ false = ap (λ k. has_number k hs) (sym c.args.entry.numbered) ∙ sym c.is_at.ensures ∙ c.if-is_at.false in
    let whole : c.row_with-row.result ≡ merged (row_of p) (rows hs) = c.row_with-row.ensures ∙ ap (λ (r : Row). merged r (rows hs)) c.row_of_packet.ensures in
    pushed_frames p hs new c.row_with-row.result c.frame_of.result c.args.complete.now.items c.note.new.complete.items
    c.requires.rises fresh c.requires.complete c.place_at.ensures.held whole c.frame_of.ensures c.note.ensures.frames

pub evict-number-requires-clause-rises : goal.evict-number-requires-clause-rises
evict-number-requires-clause-rises c =
    let hs = map held_of c.args.packets.now.items in
    let p : Held = held_of c.args.entry in
    let fresh : has_number (number_of p) hs ≡ false = ap (λ k. has_number k hs) (sym c.args.entry.numbered) ∙ sym c.is_at.ensures ∙ c.if-is_at.false in
    rw c.place_at.ensures.held (placed_rises p hs c.requires.rises fresh)

pub mend_first-requires : goal.mend_first-requires
mend_first-requires c =
    let hs = map held_of c.args.packets.now.items in
    let new = map held_of c.place_at.new.packets.items in
    let p : Held = held_of c.args.entry in
    let fresh : has_number (number_of p) hs ≡ false = ap (λ k. has_number k hs) (sym c.args.entry.numbered) ∙ sym c.is_at.ensures ∙ c.if-is_at.false in
    let whole : c.row_with-row.result ≡ merged (row_of p) (rows hs) = c.row_with-row.ensures ∙ ap (λ (r : Row). merged r (rows hs)) c.row_of_packet.ensures in
    let all : c.note.new.complete.items ≡ frames new = pushed_frames p hs new c.row_with-row.result c.frame_of.result c.args.complete.now.items c.note.new.complete.items
    c.requires.rises fresh c.requires.complete c.place_at.ensures.held whole c.frame_of.ensures c.note.ensures.frames in
    subst (λ (fs : List CompleteFrame). IfSome c.evict-number.result.1 (λ _. 0 < length fs)) (sym all) c.evict-number.ensures.some

pub returns-clause-complete : goal.returns-clause-complete
returns-clause-complete c =
    let hs = map held_of c.args.packets.now.items in
    let new = map held_of c.place_at.new.packets.items in
    let p : Held = held_of c.args.entry in
    let fresh : has_number (number_of p) hs ≡ false = ap (λ k. has_number k hs) (sym c.args.entry.numbered) ∙ sym c.is_at.ensures ∙ c.if-is_at.false in
    let whole : c.row_with-row.result ≡ merged (row_of p) (rows hs) = c.row_with-row.ensures ∙ ap (λ (r : Row). merged r (rows hs)) c.row_of_packet.ensures in
    let all : c.note.new.complete.items ≡ frames new = pushed_frames p hs new c.row_with-row.result c.frame_of.result c.args.complete.now.items c.note.new.complete.items
    c.requires.rises fresh c.requires.complete c.place_at.ensures.held whole c.frame_of.ensures c.note.ensures.frames in
    c.mend_first.ensures.frames ∙ ap (first_mended c.evict-number.result.1 c.evict-number.result.2) all ∙ c.evict-number.ensures.frames

pub returns-clause-rises : goal.returns-clause-rises
returns-clause-rises c =
    let hs = map held_of c.args.packets.now.items in
    let p : Held = held_of c.args.entry in
    let fresh : has_number (number_of p) hs ≡ false = ap (λ k. has_number k hs) (sym c.args.entry.numbered) ∙ sym c.is_at.ensures ∙ c.if-is_at.false in
    let rises : Rises (map held_of c.place_at.new.packets.items) = rw c.place_at.ensures.held (placed_rises p hs c.requires.rises fresh) in
    (lowest_out _ _ _ c.evict-number.ensures.lowest rises).rises

pub returns-clause-few : goal.returns-clause-few
returns-clause-few c =
    let hs = map held_of c.args.packets.now.items in
    let p : Held = held_of c.args.entry in
    let fresh : has_number (number_of p) hs ≡ false = ap (λ k. has_number k hs) (sym c.args.entry.numbered) ∙ sym c.is_at.ensures ∙ c.if-is_at.false in
    let rises : Rises (map held_of c.place_at.new.packets.items) = rw c.place_at.ensures.held (placed_rises p hs c.requires.rises fresh) in
    omega (
      arith,
      ap length c.place_at.ensures.held,
      length_placed p hs,
      (lowest_out _ _ _ c.evict-number.ensures.lowest rises).shorter,
      length-map c.place_at.new.packets.items held_of,
      length-map c.evict-number.new.packets.items held_of,
      length-map c.args.packets.now.items held_of,
      c.requires.few,
    )
