use Rattle.std.proofs.Common.{◌≡◌, ◌++◌, map, drop, true}
use Rattle.codec_payload_rtcp.specs.Sdes.{items_bytes}
use Rattle.codec_payload_rtcp.specs.SdesValues.{item_of}
use Rattle.codec_payload_rtcp.specs.SdesWriting.{items_fit}
use Rattle.codec_payload_rtcp.proofs.sdes.put_items.Given as goal

abbrev pub invariant-loop-item : goal.invariant-loop-item
invariant-loop-item l = record {
  fit : items_fit (map item_of (drop l.item-index l.items)) ≡ true;
  rest : l.out.items ++ items_bytes (map item_of (drop l.item-index l.items)) ≡ l.fn.out.items ++ items_bytes (map item_of l.items);
}
