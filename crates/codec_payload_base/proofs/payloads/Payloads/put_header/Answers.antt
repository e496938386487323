use Rattle.std.proofs.Common.{rules, ◌≡◌, ◌+◌, ◌-◌, ◌≤◌, ap, arith, length, take}
use Rattle.std.proofs.lemmas.List.{length-take}
use Rattle.codec_payload_base.specs.PayloadLists.{PayloadList}
use Rattle.codec_payload_base.proofs.SpanLemmas.{few_spans, span_at, still_in_order, is_put, length-put, put_list}
use Rattle.codec_payload_base.proofs.payloads.Payloads.put_header.Goals as goal

pub overflow_sub-front : goal.overflow_sub-front
overflow_sub-front c =
    let p = c.self.inside in
    let bytes = take p.filled p.bytes.items in
    let took = length-take p.filled p.bytes.items in
    let few = few_spans bytes p.spans.items _ c.args.i (ap (λ (l : PayloadList). l.payloads) c.self.view_is) c.requires.place in
    let s = c.index-span.result.now in
    let at = span_at p.headroom p.tailroom 0 (p.begun - p.headroom) p.spans.items c.args.i s few c.index-span.ensures c.self.invariant.5 in
    let room : length c.args.header.now ≤ p.headroom = omega (arith, c.requires.room, ap (λ (l : PayloadList). l.headroom) c.self.view_is) in
    omega (arith, at.0, room)

pub put_over-requires : goal.put_over-requires
put_over-requires c =
    let p = c.self.inside in
    let bytes = take p.filled p.bytes.items in
    let took = length-take p.filled p.bytes.items in
    let few = few_spans bytes p.spans.items _ c.args.i (ap (λ (l : PayloadList). l.payloads) c.self.view_is) c.requires.place in
    let s = c.index-span.result.now in
    let at = span_at p.headroom p.tailroom 0 (p.begun - p.headroom) p.spans.items c.args.i s few c.index-span.ensures c.self.invariant.5 in
    let header = c.args.header.now in
    let room : length header ≤ p.headroom = omega (arith, c.requires.room, ap (λ (l : PayloadList). l.headroom) c.self.view_is) in
    let front = s.start - length header in
    let order : s.start ≤ front + p.headroom = omega (arith, room) in
    let ends : s.start ≡ front + length header = omega (arith, at.0, room) in
    let within : s.start ≤ length p.bytes.items = omega (arith, at.3, at.4) in
    search (rules, within, ends)

pub invariant_of-self : goal.invariant_of-self
invariant_of-self c =
    let p = c.self.inside in
    let bytes = take p.filled p.bytes.items in
    let took = length-take p.filled p.bytes.items in
    let few = few_spans bytes p.spans.items _ c.args.i (ap (λ (l : PayloadList). l.payloads) c.self.view_is) c.requires.place in
    let s = c.index-span.result.now in
    let at = span_at p.headroom p.tailroom 0 (p.begun - p.headroom) p.spans.items c.args.i s few c.index-span.ensures c.self.invariant.5 in
    let header = c.args.header.now in
    let room : length header ≤ p.headroom = omega (arith, c.requires.room, ap (λ (l : PayloadList). l.headroom) c.self.view_is) in
    let front = s.start - length header in
    let order : s.start ≤ front + p.headroom = omega (arith, room) in
    let ends : s.start ≡ front + length header = omega (arith, at.0, room) in
    let whole = length-put front p.bytes.items header c.put_over.new.bytes.items (omega (arith, ends, at.3, at.4)) c.put_over.ensures in (
      c.self.invariant.0,
      c.self.invariant.1,
      c.self.invariant.2,
      c.self.invariant.3,
      omega (arith, whole),
      still_in_order p.headroom p.tailroom 0 (p.begun - p.headroom) p.spans.items c.args.i front s few c.index-span.ensures order (omega arith) c.self.invariant.5,
    )

pub returns : goal.returns
returns c =
    let p = c.self.inside in
    let bytes = take p.filled p.bytes.items in
    let took = length-take p.filled p.bytes.items in
    let few = few_spans bytes p.spans.items _ c.args.i (ap (λ (l : PayloadList). l.payloads) c.self.view_is) c.requires.place in
    let s = c.index-span.result.now in
    let at = span_at p.headroom p.tailroom 0 (p.begun - p.headroom) p.spans.items c.args.i s few c.index-span.ensures c.self.invariant.5 in
    let header = c.args.header.now in
    let room : length header ≤ p.headroom = omega (arith, c.requires.room, ap (λ (l : PayloadList). l.headroom) c.self.view_is) in
    let front = s.start - length header in
    let order : s.start ≤ front + p.headroom = omega (arith, room) in
    let ends : s.start ≡ front + length header = omega (arith, at.0, room) in
    let put = is_put p.filled front s p.bytes.items header c.put_over.new.bytes.items c.self.invariant.4 (omega (arith, at.3, at.4)) ends c.put_over.ensures in
    rw (← c.self.view_is)
    (put_list p.headroom p.tailroom (p.begun - p.headroom) p.spans.items c.args.i front s bytes (take p.filled c.put_over.new.bytes.items) header p.begun few c.index-span.ensures order (omega arith) c.self.invariant.5 put (omega (arith, at.3, at.4)))
