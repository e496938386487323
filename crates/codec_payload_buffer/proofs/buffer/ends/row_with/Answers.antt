use Rattle.std.proofs.Common.{◌≡◌, ◌∙◌, sym, ap, map, refl, true, false}
use Rattle.codec_payload_buffer.specs.Held.{held_of, has_number}
use Rattle.codec_payload_buffer.specs.Rows.{has_end, row_frames, rows}
use Rattle.codec_payload_buffer.specs.Ends.{ahead, behind, next_of, previous_of}
use Rattle.codec_payload_buffer.specs.declared.buffer.rows.Row.{Row}
use Rattle.codec_payload_buffer.proofs.FrameEnds.{behind_frame}
use Rattle.codec_payload_buffer.proofs.RowFrames.{frames_of_rows}
use Rattle.codec_payload_buffer.proofs.EndLemmas.{ahead_first, merged_beside}
use Rattle.codec_payload_buffer.proofs.RowListLemmas.{rows_rise, outside_rows}
use Rattle.codec_payload_buffer.proofs.buffer.ends.row_with.Goals as goal

pub returns : goal.returns
returns c =
    let hs = map held_of c.args.packets.now.items in
    let p = c.args.row in
    let o = next_of p.last (rows hs) in
    let fresh : has_number p.first hs ≡ false = ap (λ k. has_number k hs) c.requires.one ∙ c.requires.fresh in
    c.join_previous.ensures ∙ ap (λ (w : Row). behind w (previous_of w.first (rows hs))) c.join_next-row.ensures
    ∙ ap (λ k. behind (ahead p o) (previous_of k (rows hs))) (ahead_first p o)
    ∙ sym (merged_beside p (rows hs) c.requires.one (rows_rise hs c.requires.rises) (outside_rows p.first hs fresh c.requires.rises))

pub returns-then-is_frame_before : goal.returns-then-is_frame_before
returns-then-is_frame_before c =
    let hs = map held_of c.args.packets.now.items in
    let p = c.args.row in
    let o = next_of p.last (rows hs) in
    let fresh : has_number p.first hs ≡ false = ap (λ k. has_number k hs) c.requires.one ∙ c.requires.fresh in
    let found = c.if-is_frame_before.ensures refl in
    let has : has_end found.0 (row_frames (rows hs)) ≡ true = ap (has_end found.0) (frames_of_rows hs ∙ sym c.requires.complete) ∙ found.2 in
    c.join_next-row.ensures ∙ behind_frame (ahead p o) found.0 p.first (rows hs) (rows_rise hs c.requires.rises) found.1 has
    ∙ sym (merged_beside p (rows hs) c.requires.one (rows_rise hs c.requires.rises) (outside_rows p.first hs fresh c.requires.rises))
