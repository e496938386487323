use Rattle.std.proofs.Common.{◌-◌, ap, arith, length, take}
use Rattle.std.proofs.lemmas.List.{length-take}
use Rattle.codec_payload_base.specs.PayloadLists.{PayloadList}
use Rattle.codec_payload_base.proofs.SpanLemmas.{few_spans, span_at, range_in_front, header_at}
use Rattle.codec_payload_base.proofs.payloads.Payloads.header.Goals as goal

pub part-requires-clause-order : goal.part-requires-clause-order
part-requires-clause-order c =
    let p = c.self.inside in
    let bytes = take p.filled p.bytes.items in
    let took = length-take p.filled p.bytes.items in
    let few = few_spans bytes p.spans.items _ c.args.i (ap (λ (l : PayloadList). l.payloads) c.self.view_is) c.requires in
    let s = c.index-span.result.now in
    let at = span_at p.headroom p.tailroom 0 (p.begun - p.headroom) p.spans.items c.args.i s few c.index-span.ensures c.self.invariant.5 in
    at.2

pub part-requires-clause-within : goal.part-requires-clause-within
part-requires-clause-within c =
    let p = c.self.inside in
    let bytes = take p.filled p.bytes.items in
    let took = length-take p.filled p.bytes.items in
    let few = few_spans bytes p.spans.items _ c.args.i (ap (λ (l : PayloadList). l.payloads) c.self.view_is) c.requires in
    let s = c.index-span.result.now in
    let at = span_at p.headroom p.tailroom 0 (p.begun - p.headroom) p.spans.items c.args.i s few c.index-span.ensures c.self.invariant.5 in
    omega (arith, at.2, at.3, at.4, c.self.invariant.4, ap length c.deref.ensures.value)

pub returns : goal.returns
returns c =
    let p = c.self.inside in
    let bytes = take p.filled p.bytes.items in
    let took = length-take p.filled p.bytes.items in
    let few = few_spans bytes p.spans.items _ c.args.i (ap (λ (l : PayloadList). l.payloads) c.self.view_is) c.requires in
    let s = c.index-span.result.now in
    let at = span_at p.headroom p.tailroom 0 (p.begun - p.headroom) p.spans.items c.args.i s few c.index-span.ensures c.self.invariant.5 in
    rw (← c.self.view_is, header_at bytes p.spans.items c.args.i s few c.index-span.ensures, ← range_in_front p.filled p.bytes.items s.front s.start c.self.invariant.4 at.2 (omega (arith, at.3, at.4)), ← c.deref.ensures.value) c.part.ensures
