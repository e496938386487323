-- What a datagram brings is stored as its relation says.
use Rattle.std.proofs.Common.{◌≡◌, refl, subst, sym, List, Bool, true, false, ◌&&◌, not, IfOk, Result, Ok, Err}
use Rattle.codec_payload_base.specs.declared.wire.Ticks.{Ticks}
use Rattle.codec_payload_rtp.specs.RtpPackets.{Packet}
use Rattle.codec_payload_jitter.specs.Receiving.{Arrival, Receiving}
use Rattle.codec_payload_jitter.specs.declared.outcome.Outcome.{Outcome}
use Rattle.codec_payload_datagrams.specs.Kinds.{Again, AgainInRed, Carrier, InRed, Kinds, Original, WithMedia, header_for, original_header}
use Rattle.codec_payload_numbers.specs.SeenTimes.{Seen}
use Rattle.codec_payload_receiver.specs.Sessions.{Holding, TakesAgain, TakesDatagram, TakesMedia, TakesPrimaryAgain, TakesPrimaryIf, all_carried, is_own_media, is_repeat}
use Rattle.codec_payload_receiver.specs.Storing.{StoresAs, TakesAlone, TakesBrought, first_brought, in_carrier, repeated_by}

-- ---- a RED packet

first_in_red : (own repeat : Bool) (s : Kinds) (now : Ticks) (c : Carrier) (r : Receiving) (o : Outcome) (t : Receiving)
    → StoresAs own repeat false (record { now = now; header = header_for s c.header; bytes = c.primary.payload }) r o t → TakesPrimaryIf (own && not repeat) s now c r o t
first_in_red true false s now c r o t got = got
first_in_red true true s now c r o t got = got
first_in_red false repeat s now c r o t got = got

pub takes_red : (s : Kinds) (now : Ticks) (c : Carrier) (all : List Arrival) (r : Holding) (o : Outcome) (whole : Bool) (t : Holding) → all ≡ all_carried s now c
    → TakesBrought s now (in_carrier s c false) all r o whole t → TakesDatagram s now (InRed c) r o whole t
takes_red s now c all r o whole t is got =
    subst (λ (l : List Arrival). TakesBrought s now (in_carrier s c false) l r o whole t → TakesDatagram s now (InRed c) r o whole t) (sym is)
    (λ it. (it.0, first_in_red (is_own_media s c) (is_repeat s r.seen r.packets c.header.timestamp c.header.sequence_number) s now c r.packets o it.0 it.1, it.2)) got

again_in_red : (own repeat : Bool) (s : Kinds) (now : Ticks) (c : Carrier) (seen : Seen) (r : Receiving) (o : Outcome) (t : Receiving)
    → is_repeat s seen r c.header.timestamp c.header.sequence_number ≡ repeat
    → StoresAs own repeat true (record { now = now; header = header_for s c.header; bytes = c.primary.payload }) r o t → TakesPrimaryAgain own s now c seen r o t
again_in_red true false s now c seen r o t is got =
    subst (λ (b : Bool). TakesAgain b (record { now = now; header = header_for s c.header; bytes = c.primary.payload }) r o t) (sym is) got
again_in_red true true s now c seen r o t is got =
    subst (λ (b : Bool). TakesAgain b (record { now = now; header = header_for s c.header; bytes = c.primary.payload }) r o t) (sym is) got
again_in_red false repeat s now c seen r o t is got = got

pub takes_red_again : (s : Kinds) (now : Ticks) (c : Carrier) (all : List Arrival) (r : Holding) (o : Outcome) (whole : Bool) (t : Holding) → all ≡ all_carried s now c
    → TakesBrought s now (in_carrier s c true) all r o whole t → TakesDatagram s now (AgainInRed c) r o whole t
takes_red_again s now c all r o whole t is got =
    subst (λ (l : List Arrival). TakesBrought s now (in_carrier s c true) l r o whole t → TakesDatagram s now (AgainInRed c) r o whole t) (sym is)
    (λ it. (it.0, again_in_red (is_own_media s c) (is_repeat s r.seen r.packets c.header.timestamp c.header.sequence_number) s now c r.seen r.packets o it.0 refl it.1, it.2)) got

-- ---- a packet without blocks

first_alone : (repeat : Bool) (a : Arrival) (r : Receiving) (o : Outcome) (t : Receiving) → StoresAs true repeat false a r o t → TakesMedia repeat a r o t
first_alone false a r o t got = got
first_alone true a r o t got = got

again_alone : (repeat : Bool) (a : Arrival) (r : Receiving) (o : Outcome) (t : Receiving) → StoresAs true repeat true a r o t → TakesAgain repeat a r o t
again_alone false a r o t got = got
again_alone true a r o t got = got

pub takes_first : (s : Kinds) (now : Ticks) (p : Packet) (r : Holding) (o : Outcome) (whole : Bool) (t : Holding) → TakesAlone s now (first_brought true p) r o t → TakesDatagram s now (WithMedia p) r o whole t
takes_first s now p r o whole t got =
    (first_alone (is_repeat s r.seen r.packets p.header.timestamp p.header.sequence_number) (record { now = now; header = header_for s p.header; bytes = p.payload }) r.packets o t.packets got.0, got.1)

pub takes_again : (s : Kinds) (now : Ticks) (p : Original) (r : Holding) (o : Outcome) (whole : Bool) (t : Holding) → TakesAlone s now (repeated_by p) r o t → TakesDatagram s now (Again p) r o whole t
takes_again s now p r o whole t got =
    (again_alone (is_repeat s r.seen r.packets p.header.timestamp p.number) (record { now = now; header = original_header s p; bytes = p.bytes }) r.packets o t.packets got.0, got.1)

-- ---- answers

pub if_ok : {A E : Type 0} (P Q : A → Type 0) (r : Result A E) → ((x : A) → P x → Q x) → IfOk r P → IfOk r Q
if_ok P Q (Ok x) f got = f x got
if_ok P Q (Err e) f got = got
