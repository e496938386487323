use Rattle.std.proofs.Common.{◌∙◌, ap}
use Rattle.codec_payload_sending_history.specs.Packets.{number_in, sent_of}
use Rattle.codec_payload_sending_history.proofs.retransmission.History.resend_within.Goals as goal

pub write_again-requires-clause-packet : goal.write_again-requires-clause-packet
write_again-requires-clause-packet c = (c.args.number, ap number_in c.deref.ensures.value ∙ c.in-Some.ensures.found.numbered)

pub record-requires : goal.record-requires
record-requires c = (sent_of c.in-Some.packet.now, c.args.number, c.in-Some.ensures.found.found, c.in-Some.ensures.found.numbered)
