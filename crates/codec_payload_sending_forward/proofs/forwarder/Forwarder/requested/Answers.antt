use Rattle.std.proofs.Common.{rules}
use Rattle.codec_payload_rtp.specs.RtpValues.{packet_of}
use Rattle.codec_payload_sending_forward.specs.Forwarding.{IsNotRequested}
use Rattle.codec_payload_sending_forward.proofs.RequestLemmas.{not_kept, of_another}
use Rattle.codec_payload_sending_forward.proofs.forwarder.Forwarder.requested.Goals as goal

pub returns-in_err-datagram-clause-none : goal.returns-in_err-datagram-clause-none
returns-in_err-datagram-clause-none c =
    let sent = c.in_ok-number.ensures.some in
    let nowhere : IsNotRequested c.args.self.now c.args.store.now c.args.number = not_kept c.args.self.now c.args.store.now c.args.number sent.0 c.in_ok-number.number sent.1 c.in_err-datagram.ensures.none in
    rw c.from_residual-in_err-datagram.ensures nowhere

pub returns-then-not-is_source-clause-none : goal.returns-then-not-is_source-clause-none
returns-then-not-is_source-clause-none c =
    let sent = c.in_ok-number.ensures.some in
    of_another c.args.self.now c.args.store.now c.args.number sent.0 c.in_ok-number.number c.in_ok-datagram.datagram.now (packet_of c.in_ok-packet.packet) sent.1 c.in_ok-datagram.ensures.some (search rules) (search rules)
