use Rattle.std.proofs.Common.{◌≡◌, ◌∙◌, sym, ap, arith, ◌<◌, ◌≤◌, ◌+◌, length, map, get_or}
use Rattle.std.proofs.lemmas.List.{length-map}
use Rattle.std.proofs.lemmas.Bool.Decides.{nat_tests}
use Rattle.codec_payload_buffer.specs.Held.{held_of}
use Rattle.codec_payload_buffer.specs.Scan.{place_of}
use Rattle.codec_payload_buffer.specs.Ends.{ahead}
use Rattle.codec_payload_buffer.proofs.PlaceLemmas.{place_within}
use Rattle.codec_payload_buffer.proofs.EndLemmas.{ahead_joined, ahead_apart}
use Rattle.codec_payload_buffer.proofs.RowEnds.{next_found, next_past, next_apart}
use Rattle.codec_payload_buffer.proofs.buffer.ends.join_next.Goals as goal

pub returns-then-place-len : goal.returns-then-place-len
returns-then-place-len c =
    let xs = c.args.packets.now.items in
    let n = c.args.row.last in
    let past : length xs ≤ place_of n (map held_of xs) = omega (arith, c.if-place-len.true, c.len.ensures, c.requires.place) in
    sym (ap (ahead c.args.row) (next_past xs n c.requires.rises c.requires.told c.requires.fresh past))

pub at-entry-requires : goal.at-entry-requires
at-entry-requires c =
    let xs = c.args.packets.now.items in
    omega (arith, c.if-place-len.false, c.len.ensures, c.requires.place, place_within c.args.row.last (map held_of xs), length-map xs held_of)

pub returns-then-not-is_next : goal.returns-then-not-is_next
returns-then-not-is_next c =
    let xs = c.args.packets.now.items in
    sym (ap (ahead c.args.row) (next_apart xs c.args.row.last c.at-entry.result.now c.requires.rises c.requires.told c.requires.fresh
    (c.at-entry.ensures ∙ ap (λ k. get_or xs k c.at-entry.result.now) c.requires.place) (sym c.is_next.ensures ∙ c.if-not-is_next.true)))

pub overflow_sub-after : goal.overflow_sub-after
overflow_sub-after c =
    let xs = c.args.packets.now.items in
    let n = c.args.row.last in
    let l : c.args.place < length xs = omega (arith, c.if-place-len.false, c.len.ensures, c.requires.place, place_within n (map held_of xs), length-map xs held_of) in
    let number : c.at-entry.result.now.number ≡ n + 1 = grind (arith, nat_tests, sym c.is_next.ensures ∙ c.if-not-is_next.false) in
    let found = next_found xs n c.args.place c.at-entry.result.now c.requires.rises c.requires.told c.requires.fresh l c.at-entry.ensures number in
    rw c.deref.ensures found.2.order

pub overflow_add-place : goal.overflow_add-place
overflow_add-place c =
    let xs = c.args.packets.now.items in
    let n = c.args.row.last in
    let l : c.args.place < length xs = omega (arith, c.if-place-len.false, c.len.ensures, c.requires.place, place_within n (map held_of xs), length-map xs held_of) in
    let number : c.at-entry.result.now.number ≡ n + 1 = grind (arith, nat_tests, sym c.is_next.ensures ∙ c.if-not-is_next.false) in
    let found = next_found xs n c.args.place c.at-entry.result.now c.requires.rises c.requires.told c.requires.fresh l c.at-entry.ensures number in
    rw c.deref.ensures (omega (arith, found.2.within, c.len.ensures))

pub row_to-next-requires : goal.row_to-next-requires
row_to-next-requires c =
    let xs = c.args.packets.now.items in
    let n = c.args.row.last in
    let l : c.args.place < length xs = omega (arith, c.if-place-len.false, c.len.ensures, c.requires.place, place_within n (map held_of xs), length-map xs held_of) in
    let number : c.at-entry.result.now.number ≡ n + 1 = grind (arith, nat_tests, sym c.is_next.ensures ∙ c.if-not-is_next.false) in
    let found = next_found xs n c.args.place c.at-entry.result.now c.requires.rises c.requires.told c.requires.fresh l c.at-entry.ensures number in
    rw c.deref.ensures (omega (arith, found.2.within))

pub returns-then-meets : goal.returns-then-meets
returns-then-meets c =
    let xs = c.args.packets.now.items in
    let n = c.args.row.last in
    let l : c.args.place < length xs = omega (arith, c.if-place-len.false, c.len.ensures, c.requires.place, place_within n (map held_of xs), length-map xs held_of) in
    let number : c.at-entry.result.now.number ≡ n + 1 = grind (arith, nat_tests, sym c.is_next.ensures ∙ c.if-not-is_next.false) in
    let found = next_found xs n c.args.place c.at-entry.result.now c.requires.rises c.requires.told c.requires.fresh l c.at-entry.ensures number in
    let whole : c.row_to-next.result ≡ found.0 = c.row_to-next.ensures.2 ∙ found.2.whole c.row_to-next.ensures.0 (rw c.deref.ensures at c.row_to-next.ensures.1) in
    c.join.ensures ∙ ahead_joined c.args.row found.0 c.row_to-next.result _ found.1 whole (sym c.meets.ensures ∙ c.if-meets.true)

pub returns-else-meets : goal.returns-else-meets
returns-else-meets c =
    let xs = c.args.packets.now.items in
    let n = c.args.row.last in
    let l : c.args.place < length xs = omega (arith, c.if-place-len.false, c.len.ensures, c.requires.place, place_within n (map held_of xs), length-map xs held_of) in
    let number : c.at-entry.result.now.number ≡ n + 1 = grind (arith, nat_tests, sym c.is_next.ensures ∙ c.if-not-is_next.false) in
    let found = next_found xs n c.args.place c.at-entry.result.now c.requires.rises c.requires.told c.requires.fresh l c.at-entry.ensures number in
    let whole : c.row_to-next.result ≡ found.0 = c.row_to-next.ensures.2 ∙ found.2.whole c.row_to-next.ensures.0 (rw c.deref.ensures at c.row_to-next.ensures.1) in
    ahead_apart c.args.row found.0 c.row_to-next.result _ found.1 whole (sym c.meets.ensures ∙ c.if-meets.false)
