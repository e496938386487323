use Rattle.std.proofs.Common.{◌≡◌, ◌∙◌, sym, ap, get_or, slice_set, Option, Vec, ℕ}
use Rattle.std.specs.Global.{Global}
use Rattle.std.specs.Option.{option_map}
use Rattle.codec_payload_fec_port.specs.Ports.{changed, rebuilt_if, rebuilt_of}
use Rattle.codec_payload_fec_port.specs.Streams.{is_of, rebuilt_in, tried_in}
use Rattle.codec_payload_fec_port.specs.declared.fec_stream.FecStream.{FecStream}
use Rattle.codec_payload_fec_port.proofs.FirstLemmas.{changed_none, changed_some, find_none, find_some}
use Rattle.codec_payload_fec_port.proofs.PortLemmas.{next_leaves, next_packet, on_err}
use Rattle.codec_payload_fec_port.proofs.fec_port.next_of_one.Goals as goal

pub returns-in-None-clause-packet : goal.returns-in-None-clause-packet
returns-in-None-clause-packet c = sym (ap rebuilt_if (find_none (is_of c.args.ssrc) c.args.streams.now (sym c.in-None.ensures.value)))

pub returns-in-None-clause-ok : goal.returns-in-None-clause-ok
returns-in-None-clause-ok c = sym (changed_none (is_of c.args.ssrc) (λ (t : FecStream). (rebuilt_in t).1) c.args.streams.now (sym c.in-None.ensures.value))

pub returns-in-Some-clause-packet : goal.returns-in-Some-clause-packet
returns-in-Some-clause-packet c =
    let d : FecStream = c.index-streams-place.result in
    next_packet (λ (p : Option (Vec ℕ Global)). option_map (λ (v : Vec ℕ Global). v.items) p) (get_or c.args.streams.now c.in-Some.place d) c.next.new.self c.next.result (rebuilt_of c.args.ssrc c.args.streams.now) c.next.ensures.ok
    (sym (ap rebuilt_if (find_some (is_of c.args.ssrc) c.args.streams.now c.in-Some.place d (sym c.in-Some.ensures.value))))

pub returns-in-Some-clause-ok : goal.returns-in-Some-clause-ok
returns-in-Some-clause-ok c =
    let f : FecStream → FecStream = λ t. (rebuilt_in t).1 in
    let d : FecStream = c.index-streams-place.result in
    next_leaves (λ (p : Option (Vec ℕ Global)). option_map (λ (v : Vec ℕ Global). v.items) p) (get_or c.args.streams.now c.in-Some.place d) c.next.new.self c.next.result
    (slice_set c.args.streams.now c.in-Some.place c.next.new.self ≡ changed c.args.ssrc f c.args.streams.now) c.next.ensures.ok
    (λ e. ap (λ (t : FecStream). slice_set c.args.streams.now c.in-Some.place t) e ∙ changed_some (is_of c.args.ssrc) f c.args.streams.now c.in-Some.place d (sym c.in-Some.ensures.value))

pub returns-in-Some-clause-err : goal.returns-in-Some-clause-err
returns-in-Some-clause-err c =
    let d : FecStream = c.index-streams-place.result in
    on_err (c.next.new.self ≡ tried_in (get_or c.args.streams.now c.in-Some.place d)) (slice_set c.args.streams.now c.in-Some.place c.next.new.self ≡ changed c.args.ssrc tried_in c.args.streams.now) c.next.result
    (λ e. ap (λ (t : FecStream). slice_set c.args.streams.now c.in-Some.place t) e ∙ changed_some (is_of c.args.ssrc) tried_in c.args.streams.now c.in-Some.place d (sym c.in-Some.ensures.value)) c.next.ensures.err
