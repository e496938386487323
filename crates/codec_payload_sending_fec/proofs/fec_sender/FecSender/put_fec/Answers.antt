use Rattle.std.proofs.Common.{◌++◌, ◌∙◌, ap}
use Rattle.codec_payload_rtp.specs.RtpPackets.{packet_bytes}
use Rattle.codec_payload_sending_fec.specs.Senders.{Sender, fec_packet}
use Rattle.codec_payload_sending_fec.proofs.RedLemmas.{put_is}
use Rattle.codec_payload_sending_fec.proofs.fec_sender.FecSender.put_fec.Goals as goal

pub returns-clause-ok : goal.returns-clause-ok
returns-clause-ok c =
    put_is c.end.result c.args.out.now c.begin.new.self c.put.new.self c.end.new.self c.as_slice.result.now c.write_red.new.out.items c.clear.new.self.items (packet_bytes (fec_packet c.args.self.now c.args.number c.args.payload.now))
    c.in_ok-begin.ensures.ok c.in_ok-put.ensures.ok c.end.ensures.ok c.as_slice.ensures.value
    (c.in_ok-write_red.ensures ∙ ap (λ (s : Sender). c.clear.new.self.items ++ packet_bytes (fec_packet s c.args.number c.args.payload.now)) c.self.view_is) c.clear.ensures.items
