use Rattle.std.proofs.Common.{◌≡◌, ◌∙◌, ◌-◌, ap, sym, subst, arith, suc, length, List, ℕ, Some}
use Rattle.codec_payload_sending_history.specs.Histories.{lowered, with_bytes}
use Rattle.codec_payload_sending_history.specs.Packets.{AreNumbered, Past, Sent, packets_of}
use Rattle.codec_payload_sending_history.proofs.HistoryLemmas.{below_number, numbered_lowered, numbered_put}
use Rattle.codec_payload_sending_history.proofs.retransmission.History.store_below.Goals as goal

pub invariant_of-self-2 : goal.invariant_of-self-2
invariant_of-self-2 c =
    let s = c.self.inside in
    let items = s.packets.items in
    let newest : c.args.self.now.newest ≡ s.newest = sym (ap (λ (x : Past). x.newest) c.self.view_is) in
    let limit : c.args.self.now.limit ≡ s.limit = sym (ap (λ (x : Past). x.limit) c.self.view_is) in
    let places : List Sent = lowered (suc c.args.below - length items) (packets_of items) in
    let new : packets_of c.put_below.new.packets.items ≡ with_bytes c.args.below c.args.bytes.now places =
    c.in_ok-put_below.ensures.ok ∙ ap (λ (bs : List ℕ). with_bytes c.args.below bs places) c.in_ok-copy_in_place.ensures in
    let is = below_number s.newest c.args.below c.args.number (omega arith) (omega arith) (omega (arith, newest, c.requires.below)) in (
      c.self.invariant.0,
      c.self.invariant.1,
      c.self.invariant.2,
      omega (arith, c.in_ok-put_below.ensures.len, c.self.invariant.3, c.requires.few, limit),
      subst (AreNumbered s.newest) (sym new) (numbered_put s.newest c.args.below c.args.bytes.now places (omega arith) (c.requires.number ∙ ap Some (sym is))
          (numbered_lowered s.newest (suc c.args.below - length items) (packets_of items) c.self.invariant.4)),
    )
