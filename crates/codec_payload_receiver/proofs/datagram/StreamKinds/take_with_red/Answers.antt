use Rattle.std.proofs.Common.{subst, true}
use Rattle.codec_payload_rtp.specs.RtpValues.{packet_of}
use Rattle.codec_payload_receiver.specs.Sessions.{Holding}
use Rattle.codec_payload_receiver.specs.Storing.{Brought, TakesAlone}
use Rattle.codec_payload_receiver.proofs.StoringLemmas.{takes_first}
use Rattle.codec_payload_receiver.proofs.datagram.StreamKinds.take_with_red.Goals as goal

pub returns-clause-ok : goal.returns-clause-ok
returns-clause-ok g c =
    let r : Holding = record { packets = c.args.packets.now; seen = c.args.seen.now } in
    let t : Holding = record { packets = c.store_alone.new.packets; seen = c.store_alone.new.seen } in
    takes_first c.args.self.now c.args.now (packet_of c.args.packet.now) r c.in_ok-taken.taken.outcome true t
    (subst (λ (b : Brought). TakesAlone c.args.self.now c.args.now b r c.in_ok-taken.taken.outcome t) c.first.ensures c.in_ok-taken.ensures.ok)
