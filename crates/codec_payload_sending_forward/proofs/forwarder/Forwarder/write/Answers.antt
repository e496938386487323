use Rattle.codec_payload_rtp.specs.RtpValues.{packet_of}
use Rattle.codec_payload_sending_forward.proofs.SizeLemmas.{on_forwarded}
use Rattle.codec_payload_sending_forward.proofs.forwarder.Forwarder.write.Goals as goal

pub returns-then-is_source-clause-size : goal.returns-then-is_source-clause-size
returns-then-is_source-clause-size c =
    on_forwarded c.args.now (packet_of c.args.packet.now) _ c.write_next.result c.write_next.new.out.items _ c.write_next.ensures.ok

pub returns-clause-size : goal.returns-clause-size
returns-clause-size c =
    on_forwarded c.args.now (packet_of c.args.packet.now) _ c.begin.result c.begin.new.out.items _ c.begin.ensures.ok
