use Rattle.std.proofs.Common.{◌<◌, List, ap, arith, length, subst, sym}
use Rattle.codec_payload_rtp.specs.RtpValues.{packet_of}
use Rattle.codec_payload_session_stream.specs.Telephone.{Notes, Queue, telephone_at}
use Rattle.codec_payload_session_stream.specs.declared.telephone.Noted.TheVariants as noteds
use Rattle.codec_payload_session_stream.specs.declared.telephone.TelephonePacket.{TelephonePacket}
use Rattle.codec_payload_session_stream.proofs.TelephoneLemmas.{waits_noted}
use Rattle.codec_payload_session_stream.proofs.telephone.TelephoneQueue.note.Goals as goal

pub returns-clause-ok : goal.returns-clause-ok
returns-clause-ok c =
    let q : Queue = record { waiting = c.self.inside.waiting.items; dropped = c.self.inside.dropped } in
    let r : Queue = record { waiting = c.push.new.self.items; dropped = c.self.inside.dropped } in
    let free : length c.self.inside.waiting.items < 32 = omega (arith, c.self.inside.waiting.ok.0) in
    subst (λ (x : Queue). Notes (telephone_at c.args.settings.now c.args.datagram.now) x noteds.Waits r) c.self.view_is
    (waits_noted (telephone_at c.args.settings.now c.args.datagram.now) (packet_of c.in-Some.packet) q r (sym c.in-Some.ensures) free
    (record {
      packet = c.in_ok-packet.packet;
      copy = c.in_ok-packet.ensures;
      left = ap (λ (ws : List TelephonePacket). record q { waiting = ws }) c.in_ok-push.ensures.items;
    }))
