use Rattle.std.proofs.Common.{◌≡◌, List, map, rules, subst, IfOk}
use Rattle.codec_payload_rtp.specs.RtpValues.{packet_of}
use Rattle.codec_payload_jitter.specs.Receiving.{Arrival}
use Rattle.codec_payload_datagrams.specs.Kinds.{Again, AgainInRed, Carrier, Datagram, InRed, Kinds, WithMedia, carrier_of, datagram_of, original_of}
use Rattle.codec_payload_receiver.specs.Sessions.{Holding, TakesDatagram, copied}
use Rattle.codec_payload_receiver.specs.Storing.{Brought, TakesAlone, TakesBrought, brought_of}
use Rattle.codec_payload_receiver.specs.declared.storing.Taken.{Taken}
use Rattle.codec_payload_receiver.proofs.StoringLemmas.{if_ok, takes_again, takes_first, takes_red, takes_red_again}
use Rattle.codec_payload_receiver.proofs.datagram.StreamKinds.take.Goals as goal

pub returns-in-Media-clause-ok : goal.returns-in-Media-clause-ok
returns-in-Media-clause-ok g c =
    let s : Kinds = c.args.self.now in
    let r : Holding = record { packets = c.args.packets.now; seen = c.args.seen.now } in
    let t : Holding = record { packets = c.store_alone-in-Media.new.packets; seen = c.store_alone-in-Media.new.seen } in
    let kind : WithMedia (packet_of c.in-Media.packet) ≡ datagram_of c.args.datagram.now = search rules in
    let made = λ (b : Brought) (taken : Taken). TakesAlone s c.args.now b r taken.outcome t in
    let wanted = λ (d : Datagram) (taken : Taken). TakesDatagram s c.args.now d r taken.outcome taken.whole t in
    subst (λ (d : Datagram). IfOk c.store_alone-in-Media.result (wanted d)) kind
    (if_ok (made (brought_of c.first-in-Media.result)) (wanted (WithMedia (packet_of c.in-Media.packet))) c.store_alone-in-Media.result
    (λ taken got. takes_first s c.args.now (packet_of c.in-Media.packet) r taken.outcome taken.whole t (subst (λ (b : Brought). made b taken) c.first-in-Media.ensures got)) c.store_alone-in-Media.ensures.ok)

pub returns-in-SentAgain-clause-ok : goal.returns-in-SentAgain-clause-ok
returns-in-SentAgain-clause-ok g c =
    let s : Kinds = c.args.self.now in
    let r : Holding = record { packets = c.args.packets.now; seen = c.args.seen.now } in
    let t : Holding = record { packets = c.store_alone-in-SentAgain.new.packets; seen = c.store_alone-in-SentAgain.new.seen } in
    let kind : Again (original_of c.in-SentAgain.sent) ≡ datagram_of c.args.datagram.now = search rules in
    let made = λ (b : Brought) (taken : Taken). TakesAlone s c.args.now b r taken.outcome t in
    let wanted = λ (d : Datagram) (taken : Taken). TakesDatagram s c.args.now d r taken.outcome taken.whole t in
    subst (λ (d : Datagram). IfOk c.store_alone-in-SentAgain.result (wanted d)) kind
    (if_ok (made (brought_of c.again.result)) (wanted (Again (original_of c.in-SentAgain.sent))) c.store_alone-in-SentAgain.result
    (λ taken got. takes_again s c.args.now (original_of c.in-SentAgain.sent) r taken.outcome taken.whole t (subst (λ (b : Brought). made b taken) c.again.ensures got)) c.store_alone-in-SentAgain.ensures.ok)

pub returns-in-Red-clause-ok : goal.returns-in-Red-clause-ok
returns-in-Red-clause-ok g c =
    let s : Kinds = c.args.self.now in
    let carrier : Carrier = carrier_of c.in-Red.red in
    let all : List Arrival = map (copied c.args.now) c.in_ok-copies-in-Red.copies.items in
    let r : Holding = record { packets = c.args.packets.now; seen = c.args.seen.now } in
    let t : Holding = record { packets = c.store.new.packets; seen = c.store.new.seen } in
    let kind : InRed carrier ≡ datagram_of c.args.datagram.now = search rules in
    let made = λ (b : Brought) (taken : Taken). TakesBrought s c.args.now b all r taken.outcome taken.whole t in
    let wanted = λ (d : Datagram) (taken : Taken). TakesDatagram s c.args.now d r taken.outcome taken.whole t in
    subst (λ (d : Datagram). IfOk c.store.result (wanted d)) kind
    (if_ok (made (brought_of c.in_red-brought.result)) (wanted (InRed carrier)) c.store.result
    (λ taken got. takes_red s c.args.now carrier all r taken.outcome taken.whole t (c.in_ok-copies-in-Red.ensures c.args.now) (subst (λ (b : Brought). made b taken) c.in_red-brought.ensures got)) c.store.ensures.ok)

pub returns-in-RedAgain-clause-ok : goal.returns-in-RedAgain-clause-ok
returns-in-RedAgain-clause-ok g c =
    let s : Kinds = c.args.self.now in
    let carrier : Carrier = carrier_of c.in-RedAgain.red in
    let all : List Arrival = map (copied c.args.now) c.in_ok-copies-in-RedAgain.copies.items in
    let r : Holding = record { packets = c.args.packets.now; seen = c.args.seen.now } in
    let t : Holding = record { packets = c.store-in-RedAgain.new.packets; seen = c.store-in-RedAgain.new.seen } in
    let kind : AgainInRed carrier ≡ datagram_of c.args.datagram.now = search rules in
    let made = λ (b : Brought) (taken : Taken). TakesBrought s c.args.now b all r taken.outcome taken.whole t in
    let wanted = λ (d : Datagram) (taken : Taken). TakesDatagram s c.args.now d r taken.outcome taken.whole t in
    subst (λ (d : Datagram). IfOk c.store-in-RedAgain.result (wanted d)) kind
    (if_ok (made (brought_of c.in_red-brought-in-RedAgain.result)) (wanted (AgainInRed carrier)) c.store-in-RedAgain.result
    (λ taken got. takes_red_again s c.args.now carrier all r taken.outcome taken.whole t (c.in_ok-copies-in-RedAgain.ensures c.args.now) (subst (λ (b : Brought). made b taken) c.in_red-brought-in-RedAgain.ensures got)) c.store-in-RedAgain.ensures.ok)
