use Rattle.std.proofs.Common.{◌≡◌, rules}
use Rattle.codec_payload_rtp.specs.RtpValues.{packet_of}
use Rattle.codec_payload_sending_history.proofs.OriginalLemmas.{writes_original}
use Rattle.codec_payload_sending_history.proofs.original.OriginalStream.write.Goals as goal

pub returns-in-Ok-write-clause-ok : goal.returns-in-Ok-write-clause-ok
returns-in-Ok-write-clause-ok c =
    writes_original c.args.self.now c.args.retransmission.now c.clear.new.self.items c.write.new.out.items (packet_of c.in-Ok.packet) (c.in-Some.number, c.in-Some.payload.now)
    (search rules) (search rules) (search rules) (search rules) (search rules)
