use Rattle.std.proofs.Common.{◌≡◌, ◌∙◌, ◌+◌, ◌*◌, ◌-◌, ◌≤◌, ◌<◌, ℕ, Some, List, rules, sym, ap, subst, arith, length, drop, slice_get}
use Rattle.codec_payload_core.specs.RedBlocks.{blocks_of}
use Rattle.codec_payload_core.specs.declared.red.RedBlock.{RedBlock}
use Rattle.codec_payload_c_packets.specs.RedPlaces.{block_place, bytes_in}
use Rattle.codec_payload_c_packets.proofs.RedPlaceLemmas.{placed, too_few, within}
use Rattle.codec_payload_c.proofs.red_places.cpay_red_blocks.Goals as goal

pub returns-then-blocks-len-clause-places : goal.returns-then-blocks-len-clause-places
returns-then-blocks-len-clause-places c =
    let e = c.in-Ok.ensures in
    let counted : c.len.result ≡ length c.in-Ok.found.items = search rules in
    too_few c.args.payload.now c.in-Ok.found.items e.payload.0 e.payload.1 e.payload.2 e.exact.0 e.exact.1 e.exact.2 c.args.blocks.now c.len.result counted
    (omega (arith, c.if-blocks-len.true, c.len.ensures, c.len-2.ensures))

pub place_blocks-requires-clause-within : goal.place_blocks-requires-clause-within
place_blocks-requires-clause-within c =
    let e = c.in-Ok.ensures in
    let counted : c.len-3.result ≡ length c.in-Ok.found.items = c.len-3.ensures ∙ sym c.deref.ensures.len ∙ ap length c.deref.ensures.value in
    let few : length c.args.payload.now < 18446744073709551616 = omega arith in
    subst (λ (bs : List RedBlock). 4 * c.len-3.result - 3 + bytes_in (blocks_of bs) ≤ 18446744073709551615) (sym c.deref.ensures.value)
    (within c.args.payload.now c.in-Ok.found.items e.payload.0 e.payload.1 e.payload.2 e.exact.0 e.exact.1 e.exact.2 c.args.blocks.now c.len-3.result counted few)

pub returns-clause-places : goal.returns-clause-places
returns-clause-places c =
    let e = c.in-Ok.ensures in
    let counted : c.len.result ≡ length c.in-Ok.found.items = c.len.ensures ∙ sym c.deref.ensures.len ∙ ap length c.deref.ensures.value in
    let long_same : c.len-3.result ≡ c.len.result = c.len-3.ensures ∙ sym c.len.ensures in
    placed c.args.payload.now c.in-Ok.found.items e.payload.0 e.payload.1 e.payload.2 e.exact.0 e.exact.1 e.exact.2 c.args.blocks.now c.len.result counted c.place_blocks.new.places
    (omega (arith, c.if-blocks-len.false, c.len.ensures, c.len-2.ensures))
    (subst (λ (bs : List RedBlock). (index : ℕ) → index < length bs → slice_get c.place_blocks.new.places index ≡ Some (block_place (4 * c.len.result - 3) (blocks_of bs) index)) c.deref.ensures.value
    (subst (λ (n : ℕ). (index : ℕ) → index < length c.deref.result.now → slice_get c.place_blocks.new.places index ≡ Some (block_place (4 * n - 3) (blocks_of c.deref.result.now) index)) long_same c.place_blocks.ensures.told))
    (subst (λ (bs : List RedBlock). drop (length bs) c.place_blocks.new.places ≡ drop (length bs) c.args.blocks.now) c.deref.ensures.value c.place_blocks.ensures.behind)
