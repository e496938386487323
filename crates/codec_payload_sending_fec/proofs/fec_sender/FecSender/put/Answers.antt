use Rattle.std.proofs.Common.{◌<◌, length, sym, subst}
use Rattle.codec_payload_rtp.specs.RtpPackets.{Packet}
use Rattle.codec_payload_sending_fec.specs.Senders.{protected_bytes}
use Rattle.codec_payload_sending_fec.proofs.fec_sender.FecSender.put.Goals as goal

pub hold_if-requires-clause-short : goal.hold_if-requires-clause-short
hold_if-requires-clause-short c =
    subst (λ (p : Packet). length (protected_bytes c.args.self.now.settings p) < 65548) (sym c.numbered-sent.ensures.value) (c.requires.short c.sent_as.result)
