use Rattle.std.proofs.Common.{◌≡◌, ◌∙◌, ap, inr, sym, subst}
use Rattle.std.proofs.lemmas.Result.{err_from_is_err_and}
use Rattle.codec_payload_codec.specs.Packetizers.{is_built_in, packetizer_state_of}
use Rattle.codec_payload_sending.specs.Datagrams.{joined, sample_of}
use Rattle.codec_payload_sending.specs.Senders.{Sending, Sends}
use Rattle.codec_payload_codec.proofs.CodecLemmas.{own_packetizer}
use Rattle.codec_payload_sending.proofs.OwnLemmas.{landed, own_refused, own_sends}
use Rattle.codec_payload_sending.proofs.SenderLemmas.{on_ok_at, sends, sender_with}
use Rattle.codec_payload_sending.proofs.sender.Sender.send.Goals as goal

pub returns-clause-ok : goal.returns-clause-ok
returns-clause-ok g c =
    let p = c.self.inside in
    let s : Sending = record {
      packetizer = packetizer_state_of p.packetizer;
      mtu = p.mtu;
      stream = p.stream;
      tailroom = p.packets.out.tailroom;
      counts = p.counts;
      datagrams = joined p.packets.out.headers p.packets.out.payloads;
    } in
    let out = c.packetize_sample.new.out in
    let mid = c.put_headers-answer.new.packets.out in
    let last = c.settle.new.self in
    let answered = sym c.settle.ensures.same ∙ c.in_ok-settle.was in
    let last_is : last ≡ record out { headers = mid.headers } = on_ok_at c.put_headers-answer.result _ _ answered c.settle.ensures.ok ∙ c.put_headers-answer.ensures.rest in
    let headed = on_ok_at c.put_headers-answer.result _ _ answered c.put_headers-answer.ensures.ok in
    subst (λ (x : Sending). Sends x (sample_of c.args.sample.now)
    (sender_with s (packetizer_state_of c.put_headers-answer.new.packetizer) last c.len-count.result c.octets_in.result c.time_of.result)) c.self.view_is
    (sends s (sample_of c.args.sample.now) (packetizer_state_of c.put_headers-answer.new.packetizer)
    (packetizer_state_of c.packetize_sample.new.packetizer) out last mid.headers p.packets.out.headroom c.len-count.result c.octets_in.result c.time_of.result
    c.put_headers-answer.ensures.same last_is c.packetize_sample.ensures.rooms c.in_ok-packetize_sample.ensures.built_in headed c.len-count.ensures.payloads c.octets_in.ensures c.time_of.ensures)

pub returns-clause-own : goal.returns-clause-own
returns-clause-own g c = λ other.
    let p = c.self.inside in
    let own = own_packetizer p.packetizer (ap (λ (x : Sending). is_built_in x.packetizer) c.self.view_is ∙ other) in
    let cut = c.in_ok-packetize_sample.ensures.own own.0 own.1 in
    let out = c.packetize_sample.new.out in
    let sample = sample_of c.args.sample.now in
    let answered = sym c.settle.ensures.same ∙ c.in_ok-settle.was in
    let last_is : c.settle.new.self ≡ record out { headers = c.put_headers-answer.new.packets.out.headers } =
    on_ok_at c.put_headers-answer.result _ _ answered c.settle.ensures.ok ∙ c.put_headers-answer.ensures.rest in
    let step = landed (λ answer. g.B.Packetizer.packetize_step own.0 p.mtu c.args.sample.now.bytes.now answer (g.B.Packetizer.state cut.0)) out.payloads _ cut.2.0 cut.2.1 cut.2.2 in
    let asked = c.put_headers-answer.ensures.own cut.0 cut.1 in
    rw (← c.self.view_is) (
      own.0,
      asked.0,
      own_sends g.B.Packetizer.state g.B.Packetizer.packetize_step g.B.Packetizer.marker_step g.B.Packetizer.marks_spurts p.mtu p.stream sample own.0 cut.0 asked.0 tt
          out c.settle.new.self c.put_headers-answer.new.packets.out.headers last_is step (rw answered at asked.2),
    )

pub returns-in_err-packetize_sample-clause-own : goal.returns-in_err-packetize_sample-clause-own
returns-in_err-packetize_sample-clause-own g c = λ other.
    let p = c.self.inside in
    let exit = err_from_is_err_and c.from_residual.result c.from_residual.ensures.1 in
    let own = own_packetizer p.packetizer (ap (λ (x : Sending). is_built_in x.packetizer) c.self.view_is ∙ other) in
    let cut = c.in_err-packetize_sample.ensures.own own.0 own.1 in
    rw (exit.1, exit.2, ← c.self.view_is) (
      own.0,
      cut.0,
      own_refused g.B.Packetizer.state g.B.Packetizer.packetize_step g.B.Packetizer.marker_step g.B.Packetizer.marks_spurts p.mtu p.stream (sample_of c.args.sample.now)
          own.0 cut.0 c.in_err-packetize_sample.field-0.0 c.packetize_sample.new.out.payloads (joined c.packetize_sample.new.out.headers c.packetize_sample.new.out.payloads)
          cut.2.0 cut.2.1 cut.2.2,
    )

pub returns-in_err-settle-clause-own : goal.returns-in_err-settle-clause-own
returns-in_err-settle-clause-own g c = λ other.
    let p = c.self.inside in
    let exit = err_from_is_err_and c.from_residual-in_err-settle.result c.from_residual-in_err-settle.ensures.1 in
    let own = own_packetizer p.packetizer (ap (λ (x : Sending). is_built_in x.packetizer) c.self.view_is ∙ other) in
    let cut = c.in_ok-packetize_sample.ensures.own own.0 own.1 in
    let out = c.packetize_sample.new.out in
    let answered = sym c.settle.ensures.same ∙ c.in_err-settle.was in
    let step = landed (λ answer. g.B.Packetizer.packetize_step own.0 p.mtu c.args.sample.now.bytes.now answer (g.B.Packetizer.state cut.0)) out.payloads _ cut.2.0 cut.2.1 cut.2.2 in
    let asked = c.put_headers-answer.ensures.own cut.0 cut.1 in
    let some = rw answered at asked.2 in
    let wanting = rw answered at c.put_headers-answer.ensures.fault in
    rw (exit.1, exit.2, ← c.self.view_is) (own.0, asked.0, inr (wanting, out.payloads, cut.0, step, some.0, some.1, some.2))
