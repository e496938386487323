use Rattle.std.proofs.Common.{◌≡◌, rules}
use Rattle.codec_payload_rtp.specs.RtpValues.{packet_of}
use Rattle.codec_payload_sending_history.proofs.retransmission.History.keep_once.Goals as goal

pub returns-then-has-clause-ok : goal.returns-then-has-clause-ok
returns-then-has-clause-ok c =
    let held = c.has.ensures.there c.if-has.true in
    (c.in-Ok.packet.header.sequence_number, search rules, held, search rules)

pub returns-in-Ok-Stored-clause-ok : goal.returns-in-Ok-Stored-clause-ok
returns-in-Ok-Stored-clause-ok c =
    (c.in-Ok.packet.header.sequence_number, search rules, c.has.ensures.none c.if-has.false, record { packet = packet_of c.in-Ok.packet; reads = search rules; answer = search rules; left = search rules })
