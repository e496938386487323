use Rattle.std.proofs.Common.{inl, inr, refl, Some, None, rules, ◌≡◌, ◌∷◌, ◌+◌, [], length, map, ◌∙◌, ◌%◌, ◌^◌}
use Rattle.std.proofs.lemmas.List.{nil_from_length}
use Rattle.std.proofs.lemmas.Result.{err_from_is_err_and}
use Rattle.codec_payload_codec.specs.Packetizers.{packetizer_state_of, is_built_in}
use Rattle.codec_payload_payloader.specs.Sending.{sample_of, rtp_time_at}
use Rattle.std.specs.Vec.Iter.{into_iter_items}
use Rattle.codec_payload_payloader.proofs.OwnSendLemmas.{still_own_cut, own_next}
use Rattle.codec_payload_payloader.proofs.SendLemmas.{none_so_far, next_so_far, all_so_far, refused_so_far, SentSoFar}
use Rattle.codec_payload_payloader.proofs.payloader.send_sample.Goals as goal

pub loop-payload-init : goal.loop-payload-init
loop-payload-init g c = record {
  same = search rules;
  kept = search rules;
  counted = search rules;
  placed = search rules;
  so_far = none_so_far _ g.S.PacketSink.accepts g.S.PacketSink.sent g.S.PacketSink.next _ _;
  own = λ b is. (b, is, λ fault b' after sends. sends);
}

pub loop-payload-preserved : goal.loop-payload-preserved
loop-payload-preserved g c =
    let split : into_iter_items c.loop-payload.payload-iterator ≡ c.in-Some.payload ∷ into_iter_items c.next.new.self = search rules in
    let many : c.len-count.result ≡ c.loop-payload.place + 1 + length (into_iter_items c.next.new.self) = search rules in
    record {
      same = search rules;
      kept = g.met.S.PacketSink.keeps_on _ _ _ c.loop-payload.invariant.kept c.send_payload.ensures.kept;
      counted = search rules;
      placed = search rules;
      so_far = next_so_far g.S.PacketSink.accepts g.S.PacketSink.sent g.S.PacketSink.next c.args.sink.now _ (packetizer_state_of c.packetize.new.self)
          (packetizer_state_of c.loop-payload.packetizer) (sample_of c.args.sample.now)
          (c.numer.result % 2 ^ 32) _ _ _ _ c.len-count.result c.for_packet-ext_vals.result c.loop-payload.sink c.send_payload.new.sink
          split many c.for_packet-ext_vals.ensures c.loop-payload.invariant.same c.loop-payload.invariant.so_far c.in_ok-send_payload.ensures.ok;
      own = λ b is.
          let now = c.loop-payload.invariant.own b is in
          let one = c.send_payload.ensures.own now.0 now.1 in (
            one.0,
            one.1,
            λ fault b' after rest. now.2 fault b' after
                (own_next g.B.Packetizer.state g.B.Packetizer.marker_step g.B.Packetizer.marks_spurts g.B.Packetizer.may_be_asked_for g.S.PacketSink.accepts
                g.S.PacketSink.refuses g.S.PacketSink.sent g.S.PacketSink.next
                (sample_of c.args.sample.now) (c.numer.result % 2 ^ 32) _ c.in-Some.payload _ c.loop-payload.place c.len-count.result c.for_packet-ext_vals.result
                now.0 one.0 b' c.loop-payload.sink c.send_payload.new.sink after c.send_payload.result fault
                split many c.for_packet-ext_vals.ensures one.2 (rw c.in_ok-send_payload.was rest)),
          );
    }

pub returns-clause-ok : goal.returns-clause-ok
returns-clause-ok g c =
    let none_left : into_iter_items c.loop-payload.payload-iterator ≡ [] = nil_from_length _ (c.loop-payload.invariant.counted ∙ c.in-None.ensures.steps.0) in
    let packetizer : packetizer_state_of c.loop-payload.packetizer ≡ packetizer_state_of c.packetize.new.self = c.loop-payload.invariant.same in
    let time : rtp_time_at c.args.clock_rate c.args.sample.now.rtp_time ≡ c.numer.result % 2 ^ 32 = search rules in
    let bytes : c.deref.result.now ≡ c.args.sample.now.bytes.items = search rules in
    let items : into_iter_items c.into_iter-payload-iterator.result ≡ c.in_ok-payloads.payloads.items = search rules in
    let all : SentSoFar (is_built_in (packetizer_state_of c.packetize.new.self)) g.S.PacketSink.accepts g.S.PacketSink.sent g.S.PacketSink.next c.args.sink.now _ []
    c.loop-payload.sink = rw none_left at c.loop-payload.invariant.so_far in
    record {
      payloads = map (λ p. p.items) (into_iter_items c.into_iter-payload-iterator.result);
      packetized = rw (items, packetizer, ← bytes) c.in_ok-payloads.ensures.built_in;
      packets = all.begun;
      are = rw (packetizer, time) (all_so_far (is_built_in (packetizer_state_of c.packetize.new.self)) g.S.PacketSink.accepts g.S.PacketSink.sent g.S.PacketSink.next _ _ _ all);
      images = all.images;
      sends = all.sends;
      gained = all.gained;
      goes_on = all.goes_on;
    }

pub returns-in_err-send_payload-clause-err : goal.returns-in_err-send_payload-clause-err
returns-in_err-send_payload-clause-err g c =
    let sink = g.S.PacketSink in
    let exit = err_from_is_err_and c.from_residual-in_err-send_payload.result c.from_residual-in_err-send_payload.ensures.1 in
    let split : into_iter_items c.loop-payload.payload-iterator ≡ c.in-Some.payload ∷ into_iter_items c.next.new.self = search rules in
    let many : c.len-count.result ≡ c.loop-payload.place + 1 + length (into_iter_items c.next.new.self) = search rules in
    let here : packetizer_state_of c.loop-payload.packetizer ≡ packetizer_state_of c.packetize.new.self = c.loop-payload.invariant.same in
    let packetizer : packetizer_state_of c.send_payload.new.packetizer ≡ packetizer_state_of c.packetize.new.self = c.send_payload.ensures.same ∙ here in
    let time : rtp_time_at c.args.clock_rate c.args.sample.now.rtp_time ≡ c.numer.result % 2 ^ 32 = search rules in
    let bytes : c.deref.result.now ≡ c.args.sample.now.bytes.items = search rules in
    let items : into_iter_items c.into_iter-payload-iterator.result ≡ c.in_ok-payloads.payloads.items = search rules in
    let refused = refused_so_far sink.accepts sink.refuses sink.sent sink.next c.args.sink.now _ (packetizer_state_of c.packetize.new.self) (packetizer_state_of c.loop-payload.packetizer)
    (sample_of c.args.sample.now) (c.numer.result % 2 ^ 32) _ _ _ _ c.len-count.result c.for_packet-ext_vals.result c.loop-payload.sink c.send_payload.new.sink
    c.in_err-send_payload.field-0.0 split many c.for_packet-ext_vals.ensures here c.loop-payload.invariant.so_far c.in_err-send_payload.ensures.err in
    rw (exit.1, exit.2) (inr (record {
      payloads = map (λ p. p.items) (into_iter_items c.into_iter-payload-iterator.result);
      packetized = rw (items, packetizer, ← bytes) c.in_ok-payloads.ensures.built_in;
      begun = refused.begun;
      refused = refused.refused;
      left = refused.left;
      whole = rw (packetizer, time) refused.whole;
      images = refused.images;
      mid = refused.mid;
      sends = refused.sends;
      refusal = refused.refusal;
      gained = refused.gained;
      goes_on = refused.goes_on;
    }))

pub returns-clause-own : goal.returns-clause-own
returns-clause-own g c = λ before is.
    let none_left : into_iter_items c.loop-payload.payload-iterator ≡ [] = nil_from_length _ (c.loop-payload.invariant.counted ∙ c.in-None.ensures.steps.0) in
    let time : rtp_time_at c.args.clock_rate c.args.sample.now.rtp_time ≡ c.numer.result % 2 ^ 32 = search rules in
    let bytes : c.deref.result.now ≡ c.args.sample.now.bytes.items = search rules in
    let items : into_iter_items c.into_iter-payload-iterator.result ≡ c.in_ok-payloads.payloads.items = search rules in
    let cut = still_own_cut c.args.packetizer.now c.packetize.new.self before _ _ _ is c.packetize.ensures.built_in in
    let now = c.loop-payload.invariant.own cut.0 cut.1 in (
      now.0,
      now.1,
      (
        map (λ p. p.items) (into_iter_items c.into_iter-payload-iterator.result),
        cut.0,
        rw (items, ← bytes) (rw (is, cut.1) at c.in_ok-payloads.ensures.step),
        rw time (now.2 None now.0 c.loop-payload.sink (rw none_left (refl, refl, refl))),
      ),
    )

pub returns-in_err-payloads-clause-own : goal.returns-in_err-payloads-clause-own
returns-in_err-payloads-clause-own g c = λ before is.
    let exit = err_from_is_err_and c.from_residual.result c.from_residual.ensures.1 in
    let bytes : c.deref.result.now ≡ c.args.sample.now.bytes.items = search rules in
    let cut = still_own_cut c.args.packetizer.now c.packetize.new.self before _ _ _ is c.packetize.ensures.built_in in
    (cut.0, cut.1, rw (exit.1, exit.2) (inl (rw (bytes, is, cut.1) at c.in_err-payloads.ensures.step, refl)))

pub returns-in_err-send_payload-clause-own : goal.returns-in_err-send_payload-clause-own
returns-in_err-send_payload-clause-own g c = λ before is.
    let exit = err_from_is_err_and c.from_residual-in_err-send_payload.result c.from_residual-in_err-send_payload.ensures.1 in
    let split : into_iter_items c.loop-payload.payload-iterator ≡ c.in-Some.payload ∷ into_iter_items c.next.new.self = search rules in
    let many : c.len-count.result ≡ c.loop-payload.place + 1 + length (into_iter_items c.next.new.self) = search rules in
    let time : rtp_time_at c.args.clock_rate c.args.sample.now.rtp_time ≡ c.numer.result % 2 ^ 32 = search rules in
    let bytes : c.deref.result.now ≡ c.args.sample.now.bytes.items = search rules in
    let items : into_iter_items c.into_iter-payload-iterator.result ≡ c.in_ok-payloads.payloads.items = search rules in
    let cut = still_own_cut c.args.packetizer.now c.packetize.new.self before _ _ _ is c.packetize.ensures.built_in in
    let now = c.loop-payload.invariant.own cut.0 cut.1 in
    let one = c.send_payload.ensures.own now.0 now.1 in (
      one.0,
      one.1,
      rw (exit.1, exit.2) (inr (
        map (λ p. p.items) (into_iter_items c.into_iter-payload-iterator.result),
        cut.0,
        rw (items, ← bytes) (rw (is, cut.1) at c.in_ok-payloads.ensures.step),
        rw time (now.2 _ one.0 c.send_payload.new.sink
            (own_next g.B.Packetizer.state g.B.Packetizer.marker_step g.B.Packetizer.marks_spurts g.B.Packetizer.may_be_asked_for g.S.PacketSink.accepts
            g.S.PacketSink.refuses g.S.PacketSink.sent g.S.PacketSink.next
            (sample_of c.args.sample.now) (c.numer.result % 2 ^ 32) _ c.in-Some.payload _ c.loop-payload.place c.len-count.result c.for_packet-ext_vals.result now.0
            one.0 one.0 c.loop-payload.sink c.send_payload.new.sink c.send_payload.new.sink c.send_payload.result (Some c.in_err-send_payload.field-0.0)
            split many c.for_packet-ext_vals.ensures one.2 (rw c.in_err-send_payload.was (refl, refl, refl)))),
      )),
    )
