use Rattle.std.proofs.Common.{◌≡◌, ◌∙◌, ◌+◌, ◌%◌, ap, sym, subst, arith, List, ℕ, Some}
use Rattle.codec_payload_sending_history.specs.Histories.{raised, with_bytes}
use Rattle.codec_payload_sending_history.specs.Packets.{AreNumbered, Past, Sent, packets_of}
use Rattle.codec_payload_sending_history.proofs.HistoryLemmas.{above_number, numbered_put, numbered_raised}
use Rattle.codec_payload_sending_history.proofs.retransmission.History.store_above.Goals as goal

pub invariant_of-self-2 : goal.invariant_of-self-2
invariant_of-self-2 c =
    let s = c.self.inside in
    let items = s.packets.items in
    let count = c.args.count in
    let newest : c.args.self.now.newest ≡ s.newest = sym (ap (λ (x : Past). x.newest) c.self.view_is) in
    let places : List Sent = raised s.limit count (packets_of items) in
    let new : packets_of c.put_above.new.packets.items ≡ with_bytes 0 c.args.bytes.now places =
    c.in_ok-put_above.ensures.ok ∙ ap (λ (bs : List ℕ). with_bytes 0 bs places) c.in_ok-copy_in_place.ensures in
    let number : (s.newest + count) % 65536 ≡ c.args.number = omega (arith, newest, c.requires.above) in
    let is = above_number s.newest count c.args.number number in (
      c.self.invariant.0,
      c.self.invariant.1,
      c.self.invariant.2,
      c.in_ok-put_above.ensures.few,
      subst (λ (n : ℕ). AreNumbered n (packets_of c.put_above.new.packets.items)) number (subst (AreNumbered ((s.newest + count) % 65536)) (sym new)
          (numbered_put ((s.newest + count) % 65536) 0 c.args.bytes.now places (omega arith) (c.requires.number ∙ ap Some (sym is))
          (numbered_raised s.limit count s.newest (packets_of items) (omega arith) c.self.invariant.4))),
    )
