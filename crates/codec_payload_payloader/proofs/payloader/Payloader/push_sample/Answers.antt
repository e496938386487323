use Rattle.std.proofs.Common.{◌≡◌, ◌∙◌, ap, subst, ℕ}
use Rattle.codec_payload_codec.specs.Packetizers.{packetizer_state_of, is_built_in}
use Rattle.codec_payload_payloader.specs.OwnSending.{OwnSample}
use Rattle.codec_payload_payloader.specs.Sending.{sample_of}
use Rattle.codec_payload_codec.proofs.CodecLemmas.{own_packetizer}
use Rattle.codec_payload_payloader.proofs.payloader.Payloader.push_sample.Goals as goal

pub returns-clause-own : goal.returns-clause-own
returns-clause-own g c = λ other.
    let view : packetizer_state_of c.self.inside.packetizer ≡ c.args.self.now.packetizer = ap (λ p. p.packetizer) c.self.view_is in
    let clock : c.self.inside.clock_rate ≡ c.args.self.now.clock_rate = ap (λ p. p.clock_rate) c.self.view_is in
    let before = own_packetizer c.self.inside.packetizer (ap is_built_in view ∙ other) in
    let own = c.send_sample.ensures.own before.0 before.1 in (
      before.0,
      own.0,
      subst (λ (rate : ℕ). OwnSample g.B.Packetizer.state g.B.Packetizer.packetize_step g.B.Packetizer.marker_step g.B.Packetizer.marks_spurts g.B.Packetizer.may_be_asked_for
          g.S.PacketSink.accepts g.S.PacketSink.refuses g.S.PacketSink.sent g.S.PacketSink.next rate c.args.mtu
          (sample_of c.args.sample.now) before.0 c.args.sink.now c.send_sample.result own.0 c.send_sample.new.sink) clock own.2,
    )
