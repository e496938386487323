use Rattle.std.proofs.Common.{◌≡◌, ◌∙◌, sym, ap, arith, ◌<◌, ◌+◌, ◌-◌, length, map, true}
use Rattle.std.proofs.lemmas.List.{length-map}
use Rattle.std.proofs.lemmas.Bool.Decides.{nat_tests}
use Rattle.codec_payload_buffer.specs.Held.{held_of}
use Rattle.codec_payload_buffer.specs.Ends.{behind, row_ending}
use Rattle.codec_payload_buffer.specs.declared.buffer.held_packet.HeldPacket.{HeldPacket}
use Rattle.codec_payload_buffer.specs.declared.buffer.held_packet.Packet.{Packet}
use Rattle.codec_payload_buffer.specs.declared.buffer.rows.Row.{Row}
use Rattle.codec_payload_buffer.proofs.FrameEnds.{behind_tail}
use Rattle.codec_payload_buffer.proofs.PlaceLemmas.{place_within}
use Rattle.codec_payload_buffer.proofs.EndLemmas.{behind_joined, behind_apart}
use Rattle.codec_payload_buffer.proofs.SearchLemmas.{same_there}
use Rattle.codec_payload_buffer.proofs.RowEnds.{previous_found, previous_past, previous_apart}
use Rattle.codec_payload_buffer.proofs.buffer.ends.join_previous.Goals as goal

pub returns-then-place-eq0 : goal.returns-then-place-eq0
returns-then-place-eq0 c =
    let xs = c.args.packets.now.items in
    sym (ap (behind c.args.row) (previous_past xs c.args.row.first c.requires.rises c.requires.told (omega (arith, c.requires.place, c.if-place-eq0.true))))

pub at-entry-requires : goal.at-entry-requires
at-entry-requires c =
    let xs = c.args.packets.now.items in
    omega (arith, c.if-place-eq0.false, c.requires.place, place_within c.args.row.first (map held_of xs), length-map xs held_of)

pub returns-then-not-is_next : goal.returns-then-not-is_next
returns-then-not-is_next c =
    let xs = c.args.packets.now.items in
    sym (ap (behind c.args.row) (previous_apart xs c.args.row.first (c.args.place - 1) c.at-entry.result.now c.requires.rises c.requires.told
    (omega (arith, c.requires.place, c.if-place-eq0.false)) c.at-entry.ensures (sym c.is_next.ensures ∙ c.if-not-is_next.true)))

pub returns-then-deref : goal.returns-then-deref
returns-then-deref c =
    let xs = c.args.packets.now.items in
    let n = c.args.row.first in
    let i = c.args.place - 1 in
    let x = c.at-entry.result.now in
    let l : i < length xs = omega (arith, c.if-place-eq0.false, c.requires.place, place_within n (map held_of xs), length-map xs held_of) in
    let number : x.number + 1 ≡ n = grind (arith, nat_tests, sym c.is_next.ensures ∙ c.if-not-is_next.false) in
    let found = previous_found xs n i x c.requires.rises c.requires.told c.requires.fresh l c.at-entry.ensures number in
    let ends : x.packet.value.tail ≡ true = sym (ap (λ (p : Packet). p.tail) c.deref.ensures) ∙ c.if-deref.true in
    behind_tail c.args.row found.0 _ found.1 (sym (ap (λ (r : Row). r.tail) found.2) ∙ ends)

pub row_to-previous-requires : goal.row_to-previous-requires
row_to-previous-requires c =
    let xs = c.args.packets.now.items in
    omega (arith, c.if-place-eq0.false, c.requires.place, place_within c.args.row.first (map held_of xs), length-map xs held_of)

pub returns-then-meets : goal.returns-then-meets
returns-then-meets c =
    let xs = c.args.packets.now.items in
    let n = c.args.row.first in
    let i = c.args.place - 1 in
    let x = c.at-entry.result.now in
    let l : i < length xs = omega (arith, c.if-place-eq0.false, c.requires.place, place_within n (map held_of xs), length-map xs held_of) in
    let number : x.number + 1 ≡ n = grind (arith, nat_tests, sym c.is_next.ensures ∙ c.if-not-is_next.false) in
    let found = previous_found xs n i x c.requires.rises c.requires.told c.requires.fresh l c.at-entry.ensures number in
    let y = c.row_to-previous.ensures.0 in
    let same : y ≡ x = c.row_to-previous.ensures.1 ∙ same_there xs i y x l ∙ sym c.at-entry.ensures in
    let whole : c.row_to-previous.result ≡ found.0 = c.row_to-previous.ensures.2 ∙ ap (λ (z : HeldPacket). row_ending c.deref-2.result.now.other_end z) same
    ∙ ap (λ k. row_ending k x) (ap (λ p. p.other_end) c.deref-2.ensures) ∙ found.2 in
    c.join.ensures ∙ behind_joined c.args.row found.0 c.row_to-previous.result _ found.1 whole (sym c.meets.ensures ∙ c.if-meets.true)

pub returns-else-meets : goal.returns-else-meets
returns-else-meets c =
    let xs = c.args.packets.now.items in
    let n = c.args.row.first in
    let i = c.args.place - 1 in
    let x = c.at-entry.result.now in
    let l : i < length xs = omega (arith, c.if-place-eq0.false, c.requires.place, place_within n (map held_of xs), length-map xs held_of) in
    let number : x.number + 1 ≡ n = grind (arith, nat_tests, sym c.is_next.ensures ∙ c.if-not-is_next.false) in
    let found = previous_found xs n i x c.requires.rises c.requires.told c.requires.fresh l c.at-entry.ensures number in
    let y = c.row_to-previous.ensures.0 in
    let same : y ≡ x = c.row_to-previous.ensures.1 ∙ same_there xs i y x l ∙ sym c.at-entry.ensures in
    let whole : c.row_to-previous.result ≡ found.0 = c.row_to-previous.ensures.2 ∙ ap (λ (z : HeldPacket). row_ending c.deref-2.result.now.other_end z) same
    ∙ ap (λ k. row_ending k x) (ap (λ p. p.other_end) c.deref-2.ensures) ∙ found.2 in
    behind_apart c.args.row found.0 c.row_to-previous.result _ found.1 whole (sym c.meets.ensures ∙ c.if-meets.false)
