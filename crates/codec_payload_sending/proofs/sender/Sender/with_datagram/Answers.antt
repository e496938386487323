use Rattle.std.proofs.Common.{◌≡◌, ◌<◌, ◌-◌, ◌++◌, ◌∙◌, ℕ, List, [], ap, arith, drop, get_or, length, min, refl, sym, take}
use Rattle.codec_payload_codec.specs.Packetizers.{packetizer_state_of}
use Rattle.codec_payload_sending.specs.Datagrams.{joined}
use Rattle.codec_payload_sending.specs.Senders.{Sending}
use Rattle.codec_payload_sending.proofs.LentLemmas.{lent_back, lent_is, lent_same}
use Rattle.codec_payload_sending.proofs.SenderLemmas.{length-joined}
use Rattle.codec_payload_sending.proofs.sender.Sender.with_datagram.Goals as goal

pub header-requires : goal.header-requires
header-requires g c =
    let out = c.self.inside.packets.out in
    omega (arith, c.requires.place, length-joined out.headers out.payloads, ap (λ (s : Sending). length s.datagrams) c.self.view_is)

pub with_packet-requires-clause-place : goal.with_packet-requires-clause-place
with_packet-requires-clause-place g c =
    let out = c.self.inside.packets.out in
    omega (arith, c.requires.place, length-joined out.headers out.payloads, ap (λ (s : Sending). length s.datagrams) c.self.view_is)

pub returns : goal.returns
returns g c =
    let p = c.self.inside in
    let out = p.packets.out in
    let few : c.args.place < length out.payloads = omega (arith, c.requires.place, length-joined out.headers out.payloads, ap (λ (s : Sending). length s.datagrams) c.self.view_is) in
    let s : Sending = record {
      packetizer = packetizer_state_of p.packetizer;
      mtu = p.mtu;
      stream = p.stream;
      tailroom = out.tailroom;
      counts = p.counts;
      datagrams = joined out.headers out.payloads;
    } in
    let lent = c.with_packet.ensures in
    let call = lent.4 in
    let met = call.met in
    let before = lent.0 in
    let front : min c.saturating_sub-front.result (length before) ≡ min (316 - length (get_or out.headers c.args.place [])) (length before) =
    ap (λ (n : ℕ). min n (length before)) (c.saturating_sub-front.ensures ∙ ap (λ (h : List ℕ). 316 - length h) c.header.ensures) in
    let from = min c.saturating_sub-front.result (length before) in
    let left = met.left in
    let given = rw call.shows at met.called in
    let after_is : lent.1 ≡ take from before ++ left = sym call.leaves ∙ rw call.shows at met.rest in
    let sized = rw call.shows at met.size in
    rw (← c.self.view_is) (
      drop from before,
      left,
      lent_is s out c.args.place from before few c.self.invariant.0 lent.2 front refl refl,
      sized,
      given,
      lent_same s out c.with_packet.new.self c.args.place lent.1 left lent.5 (lent_back out c.args.place from before left lent.1 few c.self.invariant.0 lent.2 front after_is),
    )
