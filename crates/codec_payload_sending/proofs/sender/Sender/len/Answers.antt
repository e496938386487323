use Rattle.std.proofs.Common.{◌∙◌, ap, sym, length}
use Rattle.codec_payload_sending.specs.Senders.{Sending}
use Rattle.codec_payload_sending.proofs.SenderLemmas.{length-joined}
use Rattle.codec_payload_sending.proofs.sender.Sender.len.Goals as goal

pub returns : goal.returns
returns g c =
    let out = c.self.inside.packets.out in
    c.len.ensures.payloads ∙ sym (length-joined out.headers out.payloads) ∙ ap (λ (s : Sending). length s.datagrams) c.self.view_is
