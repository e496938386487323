use Rattle.std.proofs.Common.{refl}
use Rattle.codec_payload_base.specs.Answers.{written, written_lands}
use Rattle.codec_payload_codec.specs.Packetizers.{Vp8Packetizing, Vp9Packetizing}
use Rattle.codec_payload_codec.proofs.codec.packetizer.CodecPacketizerPacketizer.packetize_into.Goals as goal

pub returns-in-Vp8-clause-step : goal.returns-in-Vp8-clause-step
returns-in-Vp8-clause-step g c =
    let call = c.packetize_into-in-Vp8 in
    rw c.in-Vp8.is
    (written call.result call.new.out.payloads, (Vp8Packetizing call.new.self, (call.ensures.small, call.new.self, call.ensures.written, refl), refl), written_lands call.result call.new.out.payloads)

pub returns-in-Vp9-clause-step : goal.returns-in-Vp9-clause-step
returns-in-Vp9-clause-step g c =
    let call = c.packetize_into-in-Vp9 in
    rw c.in-Vp9.is
    (written call.result call.new.out.payloads, (Vp9Packetizing call.new.self, (call.ensures.small, call.new.self, call.ensures.written, refl), refl), written_lands call.result call.new.out.payloads)
