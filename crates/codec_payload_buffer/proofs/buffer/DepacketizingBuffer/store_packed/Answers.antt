use Rattle.std.proofs.Common.{List, rules, refl, subst, ap, map, ◌≡◌, ◌∙◌, arith, sym, false, Bool}
use Rattle.std.proofs.lemmas.List.{length-map}
use Rattle.codec_payload_buffer.specs.Buffer.{state_of}
use Rattle.codec_payload_codec.specs.Depacketizers.{depacketizer_state_of, is_built_in_depacketizer}
use Rattle.codec_payload_buffer.specs.Steps.{State, arrived, arrived_by, pushed, is_at_most}
use Rattle.codec_payload_buffer.specs.Held.{Held, held_of, has_number, placed}
use Rattle.std.specs.Prelude.{IfSome, length, ◌<◌}
use Rattle.codec_payload_buffer.specs.Frames.{frames}
use Rattle.codec_payload_buffer.specs.declared.buffer.frames.CompleteFrame.{CompleteFrame}
use Rattle.codec_payload_buffer.specs.declared.buffer.held_packet.HeldPacket.{HeldPacket}
use Rattle.codec_payload_buffer.specs.declared.buffer.held_packet.Packet.{Packet}
use Rattle.codec_payload_buffer.specs.declared.buffer.rows.Row.{Row}
use Rattle.codec_payload_codec.proofs.CodecLemmas.{own_depacketizer}
use Rattle.codec_payload_buffer.proofs.PushLemmas.{is_arrived, pushed_over, pushed_within}
use Rattle.codec_payload_buffer.specs.Rows.{first_mended, row_of, rows, merged}
use Rattle.codec_payload_buffer.proofs.PlaceLemmas.{lowest_out, with_new}
use Rattle.codec_payload_buffer.proofs.FrameEnds.{few_frames}
use Rattle.codec_payload_buffer.proofs.IndexLemmas.{complete_frames_rise, pushed_frames}
use Rattle.codec_payload_buffer.proofs.buffer.DepacketizingBuffer.store_packed.Goals.{then-len-self, else-len-self}
use Rattle.codec_payload_buffer.proofs.buffer.DepacketizingBuffer.store_packed.Goals as goal

pub row_with-row-requires-clause-complete : goal.row_with-row-requires-clause-complete
row_with-row-requires-clause-complete g c = c.reserve-2.ensures.items ∙ c.self.invariant.frames_are ∙ ap (λ (xs : List HeldPacket). frames (map held_of xs)) (sym c.reserve.ensures.items)

pub note-requires-clause-rises : goal.note-requires-clause-rises
note-requires-clause-rises g c = complete_frames_rise (map held_of c.self.inside.packets.items) c.reserve-2.new.self.items c.self.invariant.sound.rises (c.reserve-2.ensures.items ∙ c.self.invariant.frames_are)

pub note-requires-clause-few : goal.note-requires-clause-few
note-requires-clause-few g c =
    let items = c.self.inside.packets.items in
    let few = few_frames (map held_of items) in
    omega (arith, ap length (c.reserve-2.ensures.items ∙ c.self.invariant.frames_are), few, c.self.invariant.sound.few, c.self.invariant.most)

pub place_at-requires-clause-few : goal.place_at-requires-clause-few
place_at-requires-clause-few g c =
    let items = c.self.inside.packets.items in
    rw c.reserve.ensures.items (omega (arith, c.self.invariant.sound.few, c.self.invariant.most, length-map items held_of))

pub evict-number-requires-clause-rises : goal.evict-number-requires-clause-rises
evict-number-requires-clause-rises g c =
    let items = c.self.inside.packets.items in
    let hs = map held_of items in
    let new = c.place_at.new.packets.items in
    let packet : Held = record { meta = c.args.meta; bytes = c.args.«data».items; head = c.is_partition_head-head.result; tail = c.is_partition_tail-tail.result } in
    let as_held : Packet → Held = λ p. record { meta = p.known; bytes = p.bytes.items; head = p.head; tail = p.tail } in
    let told : as_held c.of.result ≡ packet = rw (c.of.ensures.known, c.of.ensures.bytes, c.of.ensures.head, c.of.ensures.tail) refl in
    let is : held_of c.in_ok-entry.entry ≡ packet = ap as_held c.in_ok-entry.ensures.packet ∙ told in
    let put : map held_of new ≡ placed packet hs = c.place_at.ensures.held ∙ ap (λ (p : Held). placed p (map held_of c.reserve.new.self.items)) is
    ∙ ap (λ (xs : List HeldPacket). placed packet (map held_of xs)) c.reserve.ensures.items in
    let fresh : has_number c.args.meta.seq_no.0 hs ≡ false = ap (λ n. has_number n hs) (sym c.number-number.ensures) ∙ (sym c.is_at.ensures ∙ c.if-is_at.false) in
    let late : is_at_most c.self.inside.cutoff c.args.meta.seq_no.0 ≡ false = ap (is_at_most c.self.inside.cutoff) (sym c.number-number.ensures) ∙ (sym c.is_too_late.ensures ∙ c.if-is_too_late.false) in
    let with = with_new items new packet c.self.inside.cutoff c.self.invariant.sound.rises c.self.invariant.sound.above fresh late put in
    with.rises

pub mend_first-requires : goal.mend_first-requires
mend_first-requires g c =
    let items = c.self.inside.packets.items in
    let hs = map held_of items in
    let new = c.place_at.new.packets.items in
    let packet : Held = record { meta = c.args.meta; bytes = c.args.«data».items; head = c.is_partition_head-head.result; tail = c.is_partition_tail-tail.result } in
    let as_held : Packet → Held = λ p. record { meta = p.known; bytes = p.bytes.items; head = p.head; tail = p.tail } in
    let told : as_held c.of.result ≡ packet = rw (c.of.ensures.known, c.of.ensures.bytes, c.of.ensures.head, c.of.ensures.tail) refl in
    let is : held_of c.in_ok-entry.entry ≡ packet = ap as_held c.in_ok-entry.ensures.packet ∙ told in
    let put : map held_of new ≡ placed packet hs = c.place_at.ensures.held ∙ ap (λ (p : Held). placed p (map held_of c.reserve.new.self.items)) is
    ∙ ap (λ (xs : List HeldPacket). placed packet (map held_of xs)) c.reserve.ensures.items in
    let fresh : has_number c.args.meta.seq_no.0 hs ≡ false = ap (λ n. has_number n hs) (sym c.number-number.ensures) ∙ (sym c.is_at.ensures ∙ c.if-is_at.false) in
    let late : is_at_most c.self.inside.cutoff c.args.meta.seq_no.0 ≡ false = ap (is_at_most c.self.inside.cutoff) (sym c.number-number.ensures) ∙ (sym c.is_too_late.ensures ∙ c.if-is_too_late.false) in
    let with = with_new items new packet c.self.inside.cutoff c.self.invariant.sound.rises c.self.invariant.sound.above fresh late put in
    let whole : c.row_with-row.result ≡ merged (row_of packet) (rows hs) = c.row_with-row.ensures
    ∙ ap (λ (r : Row). merged r (rows (map held_of c.reserve.new.self.items))) (c.row_of_packet.ensures ∙ ap row_of is)
    ∙ ap (λ (xs : List HeldPacket). merged (row_of packet) (rows (map held_of xs))) c.reserve.ensures.items in
    let all : c.note.new.complete.items ≡ frames (map held_of new) = pushed_frames packet hs (map held_of new) c.row_with-row.result c.frame_of.result c.reserve-2.new.self.items c.note.new.complete.items
    c.self.invariant.sound.rises fresh (c.reserve-2.ensures.items ∙ c.self.invariant.frames_are) put whole c.frame_of.ensures c.note.ensures.frames in
    subst (λ (fs : List CompleteFrame). IfSome c.evict-number.result.1 (λ _. 0 < length fs)) (sym all) c.evict-number.ensures.some

pub invariant_of-self-then-len-self : goal.invariant_of-self-then-len-self
invariant_of-self-then-len-self g c =
    let items = c.self.inside.packets.items in
    let hs = map held_of items in
    let new = c.place_at.new.packets.items in
    let packet : Held = record { meta = c.args.meta; bytes = c.args.«data».items; head = c.is_partition_head-head.result; tail = c.is_partition_tail-tail.result } in
    let as_held : Packet → Held = λ p. record { meta = p.known; bytes = p.bytes.items; head = p.head; tail = p.tail } in
    let told : as_held c.of.result ≡ packet = rw (c.of.ensures.known, c.of.ensures.bytes, c.of.ensures.head, c.of.ensures.tail) refl in
    let is : held_of c.in_ok-entry.entry ≡ packet = ap as_held c.in_ok-entry.ensures.packet ∙ told in
    let put : map held_of new ≡ placed packet hs = c.place_at.ensures.held ∙ ap (λ (p : Held). placed p (map held_of c.reserve.new.self.items)) is
    ∙ ap (λ (xs : List HeldPacket). placed packet (map held_of xs)) c.reserve.ensures.items in
    let fresh : has_number c.args.meta.seq_no.0 hs ≡ false = ap (λ n. has_number n hs) (sym c.number-number.ensures) ∙ (sym c.is_at.ensures ∙ c.if-is_at.false) in
    let late : is_at_most c.self.inside.cutoff c.args.meta.seq_no.0 ≡ false = ap (is_at_most c.self.inside.cutoff) (sym c.number-number.ensures) ∙ (sym c.is_too_late.ensures ∙ c.if-is_too_late.false) in
    let with = with_new items new packet c.self.inside.cutoff c.self.invariant.sound.rises c.self.invariant.sound.above fresh late put in
    let whole : c.row_with-row.result ≡ merged (row_of packet) (rows hs) = c.row_with-row.ensures
    ∙ ap (λ (r : Row). merged r (rows (map held_of c.reserve.new.self.items))) (c.row_of_packet.ensures ∙ ap row_of is)
    ∙ ap (λ (xs : List HeldPacket). merged (row_of packet) (rows (map held_of xs))) c.reserve.ensures.items in
    let all : c.note.new.complete.items ≡ frames (map held_of new) = pushed_frames packet hs (map held_of new) c.row_with-row.result c.frame_of.result c.reserve-2.new.self.items c.note.new.complete.items
    c.self.invariant.sound.rises fresh (c.reserve-2.ensures.items ∙ c.self.invariant.frames_are) put whole c.frame_of.ensures c.note.ensures.frames in
    let out = lowest_out _ _ _ c.evict-number.ensures.lowest with.rises in
    record {
      sound = record { rises = out.rises; above = out.above; few = omega (arith, with.long, out.shorter, c.self.invariant.sound.few, length-map new held_of, length-map items held_of) };
      least = c.self.invariant.least;
      most = c.self.invariant.most;
      told = c.evict-number.ensures.told;
      frames_are = c.mend_first.ensures.frames ∙ ap (first_mended c.evict-number.result.1 c.evict-number.result.2) all ∙ c.evict-number.ensures.frames;
    }

pub invariant_of-self-else-len-self : goal.invariant_of-self-else-len-self
invariant_of-self-else-len-self g c =
    let items = c.self.inside.packets.items in
    let hs = map held_of items in
    let new = c.place_at.new.packets.items in
    let packet : Held = record { meta = c.args.meta; bytes = c.args.«data».items; head = c.is_partition_head-head.result; tail = c.is_partition_tail-tail.result } in
    let as_held : Packet → Held = λ p. record { meta = p.known; bytes = p.bytes.items; head = p.head; tail = p.tail } in
    let told : as_held c.of.result ≡ packet = rw (c.of.ensures.known, c.of.ensures.bytes, c.of.ensures.head, c.of.ensures.tail) refl in
    let is : held_of c.in_ok-entry.entry ≡ packet = ap as_held c.in_ok-entry.ensures.packet ∙ told in
    let put : map held_of new ≡ placed packet hs = c.place_at.ensures.held ∙ ap (λ (p : Held). placed p (map held_of c.reserve.new.self.items)) is
    ∙ ap (λ (xs : List HeldPacket). placed packet (map held_of xs)) c.reserve.ensures.items in
    let fresh : has_number c.args.meta.seq_no.0 hs ≡ false = ap (λ n. has_number n hs) (sym c.number-number.ensures) ∙ (sym c.is_at.ensures ∙ c.if-is_at.false) in
    let late : is_at_most c.self.inside.cutoff c.args.meta.seq_no.0 ≡ false = ap (is_at_most c.self.inside.cutoff) (sym c.number-number.ensures) ∙ (sym c.is_too_late.ensures ∙ c.if-is_too_late.false) in
    let with = with_new items new packet c.self.inside.cutoff c.self.invariant.sound.rises c.self.invariant.sound.above fresh late put in
    let whole : c.row_with-row.result ≡ merged (row_of packet) (rows hs) = c.row_with-row.ensures
    ∙ ap (λ (r : Row). merged r (rows (map held_of c.reserve.new.self.items))) (c.row_of_packet.ensures ∙ ap row_of is)
    ∙ ap (λ (xs : List HeldPacket). merged (row_of packet) (rows (map held_of xs))) c.reserve.ensures.items in
    let all : c.note.new.complete.items ≡ frames (map held_of new) = pushed_frames packet hs (map held_of new) c.row_with-row.result c.frame_of.result c.reserve-2.new.self.items c.note.new.complete.items
    c.self.invariant.sound.rises fresh (c.reserve-2.ensures.items ∙ c.self.invariant.frames_are) put whole c.frame_of.ensures c.note.ensures.frames in
    record {
      sound = record { rises = with.rises; above = with.above; few = omega (arith, c.if-len-self.false, c.len.ensures, length-map new held_of) };
      least = c.self.invariant.least;
      most = c.self.invariant.most;
      told = c.place_at.ensures.told;
      frames_are = all;
    }

-- a packet that is dropped may be any
pub returns-then-is_too_late-clause-ok : goal.returns-then-is_too_late-clause-ok
returns-then-is_too_late-clause-ok g c = (arrived c.args.self.now.depacketizer c.args.meta c.args.«data».items, (refl, refl, λ built_in. refl), search rules)

pub returns-then-is_at-clause-ok : goal.returns-then-is_at-clause-ok
returns-then-is_at-clause-ok g c = (arrived c.args.self.now.depacketizer c.args.meta c.args.«data».items, (refl, refl, λ built_in. refl), search rules)

pub returns-clause-ok : goal.returns-clause-ok
returns-clause-ok g c =
    let items = c.self.inside.packets.items in
    let hs = map held_of items in
    let new = c.place_at.new.packets.items in
    let packet : Held = record { meta = c.args.meta; bytes = c.args.«data».items; head = c.is_partition_head-head.result; tail = c.is_partition_tail-tail.result } in
    let as_held : Packet → Held = λ p. record { meta = p.known; bytes = p.bytes.items; head = p.head; tail = p.tail } in
    let told : as_held c.of.result ≡ packet = rw (c.of.ensures.known, c.of.ensures.bytes, c.of.ensures.head, c.of.ensures.tail) refl in
    let is : held_of c.in_ok-entry.entry ≡ packet = ap as_held c.in_ok-entry.ensures.packet ∙ told in
    let put : map held_of new ≡ placed packet hs = c.place_at.ensures.held ∙ ap (λ (p : Held). placed p (map held_of c.reserve.new.self.items)) is
    ∙ ap (λ (xs : List HeldPacket). placed packet (map held_of xs)) c.reserve.ensures.items in
    let fresh : has_number c.args.meta.seq_no.0 hs ≡ false = ap (λ n. has_number n hs) (sym c.number-number.ensures) ∙ (sym c.is_at.ensures ∙ c.if-is_at.false) in
    let late : is_at_most c.self.inside.cutoff c.args.meta.seq_no.0 ≡ false = ap (is_at_most c.self.inside.cutoff) (sym c.number-number.ensures) ∙ (sym c.is_too_late.ensures ∙ c.if-is_too_late.false) in
    let with = with_new items new packet c.self.inside.cutoff c.self.invariant.sound.rises c.self.invariant.sound.above fresh late put in
    let view : depacketizer_state_of c.self.inside.depacketizer ≡ c.args.self.now.depacketizer = ap (λ (s : State). s.depacketizer) c.self.view_is in
    let before = state_of c.self.inside in
    let whole : c.if-len-self.self ≡ pushed before packet = elim c.if-len-self.branch [
      | then-len-self w ↦ w.self-is ∙ sym (pushed_over before packet _ _ _ late fresh put
          (omega (arith, w.if-len-self.true, c.len.ensures, length-map c.place_at.new.packets.items held_of)) w.evict-number.ensures.lowest)
      | else-len-self w ↦ w.self-is ∙ sym (pushed_within before packet _ late fresh put (omega (arith, w.if-len-self.false, c.len.ensures, length-map c.place_at.new.packets.items held_of)))
    ] in (
      packet,
      is_arrived c.args.self.now.depacketizer _ view c.args.meta c.args.«data».items _ _ c.deref.ensures.value c.deref-2.ensures.value _ _
          c.is_partition_head-head.ensures.built_in (rw c.marker.ensures at c.is_partition_tail-tail.ensures.built_in),
      whole ∙ ap (λ (s : State). pushed s packet) c.self.view_is,
    )

-- so it is of a depacketizer that a caller brings
pub returns-then-is_too_late-clause-own : goal.returns-then-is_too_late-clause-own
returns-then-is_too_late-clause-own g c = λ other.
    let view : depacketizer_state_of c.self.inside.depacketizer ≡ c.args.self.now.depacketizer = ap (λ (s : State). s.depacketizer) c.self.view_is in
    let b = own_depacketizer c.self.inside.depacketizer (ap is_built_in_depacketizer view ∙ other) in
    (b.0, search rules)

pub returns-then-is_at-clause-own : goal.returns-then-is_at-clause-own
returns-then-is_at-clause-own g c = λ other.
    let view : depacketizer_state_of c.self.inside.depacketizer ≡ c.args.self.now.depacketizer = ap (λ (s : State). s.depacketizer) c.self.view_is in
    let b = own_depacketizer c.self.inside.depacketizer (ap is_built_in_depacketizer view ∙ other) in
    (b.0, search rules)

pub returns-clause-own : goal.returns-clause-own
returns-clause-own g c = λ other.
    let items = c.self.inside.packets.items in
    let hs = map held_of items in
    let new = c.place_at.new.packets.items in
    let packet : Held = record { meta = c.args.meta; bytes = c.args.«data».items; head = c.is_partition_head-head.result; tail = c.is_partition_tail-tail.result } in
    let as_held : Packet → Held = λ p. record { meta = p.known; bytes = p.bytes.items; head = p.head; tail = p.tail } in
    let told : as_held c.of.result ≡ packet = rw (c.of.ensures.known, c.of.ensures.bytes, c.of.ensures.head, c.of.ensures.tail) refl in
    let is : held_of c.in_ok-entry.entry ≡ packet = ap as_held c.in_ok-entry.ensures.packet ∙ told in
    let put : map held_of new ≡ placed packet hs = c.place_at.ensures.held ∙ ap (λ (p : Held). placed p (map held_of c.reserve.new.self.items)) is
    ∙ ap (λ (xs : List HeldPacket). placed packet (map held_of xs)) c.reserve.ensures.items in
    let fresh : has_number c.args.meta.seq_no.0 hs ≡ false = ap (λ n. has_number n hs) (sym c.number-number.ensures) ∙ (sym c.is_at.ensures ∙ c.if-is_at.false) in
    let late : is_at_most c.self.inside.cutoff c.args.meta.seq_no.0 ≡ false = ap (is_at_most c.self.inside.cutoff) (sym c.number-number.ensures) ∙ (sym c.is_too_late.ensures ∙ c.if-is_too_late.false) in
    let with = with_new items new packet c.self.inside.cutoff c.self.invariant.sound.rises c.self.invariant.sound.above fresh late put in
    let view : depacketizer_state_of c.self.inside.depacketizer ≡ c.args.self.now.depacketizer = ap (λ (s : State). s.depacketizer) c.self.view_is in
    let before = state_of c.self.inside in
    let whole : c.if-len-self.self ≡ pushed before packet = elim c.if-len-self.branch [
      | then-len-self w ↦ w.self-is ∙ sym (pushed_over before packet _ _ _ late fresh put
          (omega (arith, w.if-len-self.true, c.len.ensures, length-map c.place_at.new.packets.items held_of)) w.evict-number.ensures.lowest)
      | else-len-self w ↦ w.self-is ∙ sym (pushed_within before packet _ late fresh put (omega (arith, w.if-len-self.false, c.len.ensures, length-map c.place_at.new.packets.items held_of)))
    ] in
    let b = own_depacketizer c.self.inside.depacketizer (ap is_built_in_depacketizer view ∙ other) in
    let head : c.is_partition_head-head.result ≡ g.B.Depacketizer.is_head b.0 c.args.«data».items = rw (c.deref.ensures.value, b.1) at c.is_partition_head-head.ensures.step in
    let tail : c.is_partition_tail-tail.result ≡ g.B.Depacketizer.is_tail b.0 c.args.meta.header.marker c.args.«data».items = rw
    (c.deref-2.ensures.value, b.1, c.marker.ensures) at c.is_partition_tail-tail.ensures.step in
    let by_box : packet ≡ arrived_by (g.B.Depacketizer.is_head b.0) (g.B.Depacketizer.is_tail b.0) c.args.meta c.args.«data».items =
    ap (λ (h : Bool). record { meta = c.args.meta; bytes = c.args.«data».items; head = h; tail = c.is_partition_tail-tail.result }) head
    ∙ ap (λ (t : Bool). record { meta = c.args.meta; bytes = c.args.«data».items; head = g.B.Depacketizer.is_head b.0 c.args.«data».items; tail = t }) tail in
    (b.0, whole ∙ (ap (λ (s : State). pushed s packet) c.self.view_is ∙ ap (pushed c.args.self.now) by_box))
