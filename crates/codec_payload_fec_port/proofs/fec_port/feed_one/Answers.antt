use Rattle.std.proofs.Common.{◌≡◌, ◌∙◌, sym, ap, get_or, slice_set}
use Rattle.codec_payload_fec_port.specs.Ports.{changed}
use Rattle.codec_payload_fec_port.specs.Streams.{fed, is_of}
use Rattle.codec_payload_fec_port.specs.declared.fec_stream.FecStream.{FecStream}
use Rattle.codec_payload_fec_port.proofs.FirstLemmas.{changed_none, changed_some}
use Rattle.codec_payload_fec_port.proofs.PortLemmas.{on_ok}
use Rattle.codec_payload_fec_port.proofs.fec_port.feed_one.Goals as goal

pub returns-in-None-clause-ok : goal.returns-in-None-clause-ok
returns-in-None-clause-ok c = sym (changed_none (is_of c.args.ssrc) (fed c.args.kind c.args.taken c.args.datagram.now) c.args.streams.now (sym c.in-None.ensures.value))

pub returns-in-Some-clause-ok : goal.returns-in-Some-clause-ok
returns-in-Some-clause-ok c =
    let f : FecStream → FecStream = fed c.args.kind c.args.taken c.args.datagram.now in
    let d : FecStream = c.index-streams-place.result in
    on_ok (c.feed.new.self ≡ f (get_or c.args.streams.now c.in-Some.place d)) (slice_set c.args.streams.now c.in-Some.place c.feed.new.self ≡ changed c.args.ssrc f c.args.streams.now) c.feed.result
    (λ e. ap (λ (t : FecStream). slice_set c.args.streams.now c.in-Some.place t) e ∙ changed_some (is_of c.args.ssrc) f c.args.streams.now c.in-Some.place d (sym c.in-Some.ensures.value)) c.feed.ensures.ok
