use Rattle.std.proofs.Common.{◌≡◌, ◌+◌, ◌-◌, arith, map, ap, sym, refl, ◌∙◌, take, drop}
use Rattle.std.proofs.lemmas.List.{length-map, take-map, drop-map}
use Rattle.codec_payload_buffer.specs.Held.{held_of}
use Rattle.codec_payload_buffer.specs.Scan.{place_of, end_of}
use Rattle.codec_payload_buffer.proofs.RangeLemmas.{end_within, end_from_place, slice_between}
use Rattle.codec_payload_buffer.proofs.buffer.packets.frame_range.Goals as goal

pub overflow_add-result : goal.overflow_add-result
overflow_add-result c =
    let items = c.args.packets.now.items in
    let end = end_from_place c.args.frame.first c.args.frame.last (map held_of items) c.requires.rises c.requires.order c.requires.whole in
    omega (
      arith,
      c.place_from_front-from.ensures,
      end,
      end_within c.args.frame.last (map held_of items),
      length-map items held_of,
      c.len.ensures,
      c.len.type_inv,
    )

pub overflow_add-result-2 : goal.overflow_add-result-2
overflow_add-result-2 c =
    let items = c.args.packets.now.items in
    let end = end_from_place c.args.frame.first c.args.frame.last (map held_of items) c.requires.rises c.requires.order c.requires.whole in
    omega (
      arith,
      c.place_from_front-from.ensures,
      end,
      end_within c.args.frame.last (map held_of items),
      length-map items held_of,
      c.len.ensures,
      c.len.type_inv,
    )

pub returns : goal.returns
returns c =
    let items = c.args.packets.now.items in
    let hs = map held_of items in
    let from = place_of c.args.frame.first hs in
    let to = end_of c.args.frame.last hs in
    let slice = slice_between c.args.frame.first c.args.frame.last hs c.requires.rises c.requires.order in
    let end : from + (c.args.frame.last - c.args.frame.first) + 1 ≡ to = sym (end_from_place c.args.frame.first c.args.frame.last hs c.requires.rises c.requires.order c.requires.whole) in
    rw (c.place_from_front-from.ensures, end) (record {
      order = slice.order;
      within = omega (arith, end_within c.args.frame.last hs, length-map items held_of);
      end = refl;
      part = sym (take-map held_of (to - from) (drop from items)) ∙ ap (take (to - from)) (sym (drop-map held_of from items)) ∙ slice.part;
    })

pub prove-unreachable-requires : goal.prove-unreachable-requires
prove-unreachable-requires c =
    let items = c.args.packets.now.items in
    let end = end_from_place c.args.frame.first c.args.frame.last (map held_of items) c.requires.rises c.requires.order c.requires.whole in
    omega (
      arith,
      c.place_from_front-from.ensures,
      end,
      end_within c.args.frame.last (map held_of items),
      length-map items held_of,
    )
