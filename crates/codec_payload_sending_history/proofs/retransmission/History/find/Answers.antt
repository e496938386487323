use Rattle.std.proofs.Common.{◌≡◌, ◌+◌, ◌-◌, ◌%◌, subst, arith, length}
use Rattle.std.proofs.lemmas.List.{length-map}
use Rattle.codec_payload_sending_history.specs.Histories.{HasNot, IsAt}
use Rattle.codec_payload_sending_history.specs.Packets.{Past, packets_of, sent_of}
use Rattle.codec_payload_sending_history.proofs.HistoryLemmas.{len_none, len_some, number_absent, number_nowhere, number_there, sent_at}
use Rattle.codec_payload_sending_history.proofs.retransmission.History.find.Goals as goal

pub returns-in_err-packet-clause-none : goal.returns-in_err-packet-clause-none
returns-in_err-packet-clause-none c =
    let s = c.self.inside in
    let items = s.packets.items in
    let v : Past = record { limit = s.limit; interval = s.interval; stream = s.stream; next = s.next; newest = s.newest; refused = s.refused; packets = packets_of items } in
    let place : c.from-place.result ≡ (s.newest + (65536 - c.args.number)) % 65536 = omega arith in
    let many : length (packets_of items) ≡ length items = length-map items sent_of in
    let nowhere : HasNot c.args.self.now c.args.number = subst (λ (x : Past). HasNot x c.args.number) c.self.view_is
    (number_nowhere v c.args.number c.from-place.result (omega arith) (omega arith) place c.self.invariant.4 (omega (arith, many, c.in_err-packet.ensures.item.3)) (omega (arith, many, c.self.invariant.1, c.self.invariant.3))) in
    rw c.from_residual.ensures nowhere

pub returns-then-is_empty-clause-none : goal.returns-then-is_empty-clause-none
returns-then-is_empty-clause-none c =
    let s = c.self.inside in
    let items = s.packets.items in
    let v : Past = record { limit = s.limit; interval = s.interval; stream = s.stream; next = s.next; newest = s.newest; refused = s.refused; packets = packets_of items } in
    let place : c.from-place.result ≡ (s.newest + (65536 - c.args.number)) % 65536 = omega arith in
    let many : length (packets_of items) ≡ length items = length-map items sent_of in
    let there = sent_at items c.from-place.result c.in_ok-packet.packet.now c.in_ok-packet.ensures.item.3.0 c.in_ok-packet.ensures.item.1 in
    let empty = len_none _ (length c.in_ok-packet.packet.now.bytes.items) c.if-is_empty.ensures c.in_ok-packet.packet.now.bytes.ok.0 in
    subst (λ (x : Past). HasNot x c.args.number) c.self.view_is
    (number_absent v c.args.number c.from-place.result (sent_of c.in_ok-packet.packet.now) (omega arith) (omega arith) place c.self.invariant.4 there empty (omega (arith, many, c.self.invariant.1, c.self.invariant.3)))

pub returns-clause-found : goal.returns-clause-found
returns-clause-found c =
    let s = c.self.inside in
    let items = s.packets.items in
    let v : Past = record { limit = s.limit; interval = s.interval; stream = s.stream; next = s.next; newest = s.newest; refused = s.refused; packets = packets_of items } in
    let place : c.from-place.result ≡ (s.newest + (65536 - c.args.number)) % 65536 = omega arith in
    let there = sent_at items c.from-place.result c.in_ok-packet.packet.now c.in_ok-packet.ensures.item.3.0 c.in_ok-packet.ensures.item.1 in
    let some = len_some _ (length c.in_ok-packet.packet.now.bytes.items) c.if-is_empty.ensures c.in_ok-packet.packet.now.bytes.ok.0 in
    subst (λ (x : Past). IsAt x c.args.number c.from-place.result (sent_of c.in_ok-packet.packet.now)) c.self.view_is (record {
      found = there;
      numbered = number_there s.newest c.args.number c.from-place.result (packets_of items) (sent_of c.in_ok-packet.packet.now) (omega arith) (omega arith) place c.self.invariant.4 there some;
    })
