use Rattle.std.proofs.Common.{length, ◌∙◌, sym, ap}
use Rattle.codec_payload_rtp.specs.RtpValues.{packet_of}
use Rattle.codec_payload_sending_fec.specs.Senders.{Sender, fault_of, number_in}
use Rattle.codec_payload_sending_fec.specs.StreamNumbers.{is_too_old}
use Rattle.codec_payload_sending_fec.proofs.PushLemmas.{pushed_is}
use Rattle.codec_payload_sending_fec.proofs.SizeLemmas.{no_fault_few, short}
use Rattle.codec_payload_sending_fec.proofs.fec_sender.FecSender.push.Goals as goal

pub put_or_clear-requires-clause-short : goal.put_or_clear-requires-clause-short
put_or_clear-requires-clause-short c =
    let p = packet_of c.in-Ok.packet in
    let none = sym (ap (λ (s : Sender). fault_of s.settings (length c.args.datagram.now) p) c.self.view_is) ∙ sym c.fault_of.ensures ∙ c.in-None.is in
    λ n. short c.args.self.now.settings c.args.datagram.now p n c.in-Ok.ensures.spelled (no_fault_few c.args.self.now.settings (length c.args.datagram.now) p none)

pub returns-clause-ok : goal.returns-clause-ok
returns-clause-ok c =
    let p = packet_of c.in-Ok.packet in
    let n = c.counted-number.result in
    pushed_is c.args.self.now c.put_or_clear.new.self c.args.datagram.now c.put_or_clear.new.out.items p n c.ends_frame-ends.result c.in-Ok.ensures.exact
    (sym (sym c.fault_of.ensures ∙ c.in-None.is) ∙ ap (λ (s : Sender). fault_of s.settings (length c.args.datagram.now) p) c.self.view_is)
    (c.counted-number.ensures ∙ ap (λ (s : Sender). number_in s p) c.self.view_is)
    (c.if-is_too_old.ensures ∙ ap (λ (s : Sender). is_too_old s.numbers n) c.self.view_is)
    c.in_ok-put_or_clear.ensures.ok.0 c.ends_frame-ends.ensures c.in_ok-put_or_clear.ensures.ok.1
