use Rattle.std.proofs.Common.{◌≡◌, ◌∙◌, ap, sym, subst, arith, refl, Some}
use Rattle.std.specs.Prelude.{slice_get}
use Rattle.std.proofs.lemmas.Option.{same_Some}
use Rattle.codec_payload_sending_history.specs.Packets.{AreNumbered, Past, Sent, number_in, packets_of}
use Rattle.codec_payload_sending_history.proofs.HistoryLemmas.{numbered_resent}
use Rattle.codec_payload_sending_history.proofs.retransmission.History.record.Goals as goal

pub invariant_of-self : goal.invariant_of-self
invariant_of-self c =
    let s = c.self.inside in
    let marked = c.mark_resent.ensures.marked in
    let same : marked.0 ≡ c.requires.0 = same_Some marked.0 c.requires.0 (sym marked.1 ∙ ap (λ (x : Past). slice_get x.packets c.args.place) c.self.view_is ∙ c.requires.2) in
    let has = subst (λ (x : Sent). number_in x.bytes ≡ Some c.requires.1) (sym same) c.requires.3 in (
      c.self.invariant.0,
      c.self.invariant.1,
      c.self.invariant.2,
      omega (arith, c.mark_resent.ensures.count, c.self.invariant.3),
      subst (AreNumbered s.newest) (sym marked.2)
          (numbered_resent s.newest c.args.place (packets_of s.packets.items) marked.0 (record marked.0 { resent = Some c.args.now }) c.requires.1 (omega arith) marked.1 has refl c.self.invariant.4),
    )
