use Rattle.std.proofs.Common.{◌<◌, ◌∙◌, ap, sym, arith, length, get_or, []}
use Rattle.codec_payload_sending.specs.Senders.{Sending}
use Rattle.codec_payload_sending.proofs.SenderLemmas.{joined_at, length-joined}
use Rattle.codec_payload_sending.proofs.sender.Sender.datagram.Goals as goal

pub packet-requires : goal.packet-requires
packet-requires g c =
    let out = c.self.inside.packets.out in
    omega (arith, c.requires, length-joined out.headers out.payloads, ap (λ (s : Sending). length s.datagrams) c.self.view_is)

pub returns : goal.returns
returns g c =
    let out = c.self.inside.packets.out in
    let few : c.args.place < length out.payloads = omega (arith, c.requires, length-joined out.headers out.payloads, ap (λ (s : Sending). length s.datagrams) c.self.view_is) in
    c.packet.ensures ∙ sym (joined_at out.headers out.payloads c.args.place few) ∙ ap (λ (s : Sending). get_or s.datagrams c.args.place []) c.self.view_is
