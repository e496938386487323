use Rattle.std.proofs.Common.{◌≡◌, ◌∙◌, ◌+◌, List, ap, map, arith, length}
use Rattle.std.specs.Prelude.{slice_range}
use Rattle.codec_payload_buffer.specs.Held.{held_of}
use Rattle.codec_payload_buffer.specs.Scan.{total_size}
use Rattle.codec_payload_buffer.specs.declared.buffer.held_packet.HeldPacket.{HeldPacket}
use Rattle.codec_payload_buffer.specs.declared.buffer.held_packet.Packet.{Packet}
use Rattle.codec_payload_buffer.proofs.CountLemmas.{all_counted}
use Rattle.codec_payload_buffer.proofs.RangeLemmas.{none_from, rest_from}
use Rattle.codec_payload_buffer.proofs.buffer.packets.payload_size.Goals as goal

pub loop-place-preserved : goal.loop-place-preserved
loop-place-preserved c =
    let items = c.args.packets.now.items in
    let rest = rest_from items c.loop-place.place c.args.to c.at.result.now c.loop-place-test.true c.requires.within c.at.ensures in
    let total : total_size (map held_of (slice_range items c.loop-place.place c.args.to))
    ≡ length c.at.result.now.packet.value.bytes.items + total_size (map held_of (slice_range items (c.loop-place.place + 1) c.args.to)) =
    ap (λ (xs : List HeldPacket). total_size (map held_of xs)) rest in
    let bytes : c.len.result ≡ length c.at.result.now.packet.value.bytes.items = c.len.ensures ∙ omega (arith, ap (λ (p : Packet). length p.bytes.items) c.deref.ensures, c.deref.result.now.bytes.ok.0) in
    record { counted = omega (arith, total, bytes); fits = omega arith }

pub returns : goal.returns
returns c =
    let none = none_from c.args.packets.now.items c.loop-place.place c.args.to c.loop-place-test.false in
    all_counted (slice_range c.args.packets.now.items c.loop-place.place c.args.to) c.loop-place.size _ 18446744073709551615 (ap length none) c.loop-place.invariant.fits c.loop-place.invariant.counted
