use Rattle.std.proofs.Common.{rules, refl, sym, ℕ, List, ◌∙◌, ◌≡◌, ◌+◌, ◌-◌, ◌≤◌, ap, arith, length, take}
use Rattle.std.proofs.lemmas.List.{length-take, with_items_is}
use Rattle.codec_payload_base.specs.PayloadLists.{PayloadList}
use Rattle.codec_payload_base.proofs.SpanLemmas.{few_spans, span_at, range_in_front}
use Rattle.codec_payload_base.proofs.RegionLemmas.{is_region, is_region_put, length-over, region_list}
use Rattle.std.specs.Vec.{with_items_from}
use Rattle.std.specs.Fn.{FnOnceReturnsAtMut}
use Rattle.codec_payload_base.proofs.payloads.Payloads.with_packet.Goals as goal

pub overflow_sub-from : goal.overflow_sub-from
overflow_sub-from g c =
    let p = c.self.inside in
    let bytes = take p.filled p.bytes.items in
    let took = length-take p.filled p.bytes.items in
    let few = few_spans bytes p.spans.items _ c.args.i (ap (λ (l : PayloadList). l.payloads) c.self.view_is) c.requires.place in
    let s = c.index-span.result.now in
    let at = span_at p.headroom p.tailroom 0 (p.begun - p.headroom) p.spans.items c.args.i s few c.index-span.ensures c.self.invariant.5 in
    omega (arith, at.0)

pub overflow_add-to : goal.overflow_add-to
overflow_add-to g c =
    let p = c.self.inside in
    let bytes = take p.filled p.bytes.items in
    let took = length-take p.filled p.bytes.items in
    let few = few_spans bytes p.spans.items _ c.args.i (ap (λ (l : PayloadList). l.payloads) c.self.view_is) c.requires.place in
    let s = c.index-span.result.now in
    let at = span_at p.headroom p.tailroom 0 (p.begun - p.headroom) p.spans.items c.args.i s few c.index-span.ensures c.self.invariant.5 in
    let bound : s.end + p.tailroom ≤ length p.bytes.items = omega (arith, at.4) in
    search (rules, bound)

pub slice_mut-requires-clause-start_le_end : goal.slice_mut-requires-clause-start_le_end
slice_mut-requires-clause-start_le_end g c =
    let p = c.self.inside in
    let bytes = take p.filled p.bytes.items in
    let took = length-take p.filled p.bytes.items in
    let few = few_spans bytes p.spans.items _ c.args.i (ap (λ (l : PayloadList). l.payloads) c.self.view_is) c.requires.place in
    let s = c.index-span.result.now in
    let at = span_at p.headroom p.tailroom 0 (p.begun - p.headroom) p.spans.items c.args.i s few c.index-span.ensures c.self.invariant.5 in
    omega (arith, at.3)

pub slice_mut-requires-clause-in_bounds : goal.slice_mut-requires-clause-in_bounds
slice_mut-requires-clause-in_bounds g c =
    let p = c.self.inside in
    let bytes = take p.filled p.bytes.items in
    let took = length-take p.filled p.bytes.items in
    let few = few_spans bytes p.spans.items _ c.args.i (ap (λ (l : PayloadList). l.payloads) c.self.view_is) c.requires.place in
    let s = c.index-span.result.now in
    let at = span_at p.headroom p.tailroom 0 (p.begun - p.headroom) p.spans.items c.args.i s few c.index-span.ensures c.self.invariant.5 in
    let bound : s.end + p.tailroom ≤ length p.bytes.items = omega (arith, at.4) in
    search (rules, bound)

pub returns : goal.returns
returns g c =
    let p = c.self.inside in
    let h = p.headroom in
    let t = p.tailroom in
    let size = p.begun - h in
    let spans = p.spans.items in
    let bytes = take p.filled p.bytes.items in
    let took = length-take p.filled p.bytes.items in
    let few = few_spans bytes spans _ c.args.i (ap (λ (l : PayloadList). l.payloads) c.self.view_is) c.requires.place in
    let s = c.index-span.result.now in
    let is = c.index-span.ensures in
    let all = c.self.invariant.5 in
    let at = span_at h t 0 size spans c.args.i s few is all in
    let front : h ≤ s.start = omega (arith, at.0) in
    let back : s.end + t ≤ p.filled = omega (arith, at.4) in
    let from = s.start - h in
    let to = s.end + t in
    let region = c.slice_mut.result.now in
    let left = c.change.new.arg2 in
    let same : length left ≡ length region = c.change.auto.arg2 in
    let given : FnOnceReturnsAtMut g.F.FnOnce c.args.change region c.change.result left =
    record { shown = _; shows = refl; left = _; met = c.change.ensures; leaves = refl } in
    let within : to ≤ length bytes = omega (arith, took, back, c.self.invariant.4) in
    let ends : to ≡ from + length region = omega (arith, c.slice_mut.ensures.len, front, at.3) in
    let fits : from + length left ≤ length p.bytes.items = omega (arith, same, ends, back, c.self.invariant.4) in
    let stands = sym (range_in_front p.filled p.bytes.items from to c.self.invariant.4 (omega (arith, at.3)) back) ∙ sym c.slice_mut.ensures.value in
    let here = is_region h t size spans c.args.i s bytes region p.begun few is all within stands in
    let bytes' : List ℕ = (with_items_from p.bytes from left).items in
    let over = with_items_is p.bytes _ (length-over from p.bytes.items left fits ∙ sym p.bytes.ok.0) in
    let closes : to ≡ from + length left = omega (arith, ends, same) in
    let put = is_region_put p.filled from to p.bytes.items left bytes' c.self.invariant.4 back closes over in
    let after = region_list h t size spans c.args.i s bytes (take p.filled bytes') left p.begun few is all put (omega (arith, at.4)) (omega (arith, within)) in
    rw (← c.self.view_is) (region, left, here, same, given, after)
