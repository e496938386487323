use Rattle.std.proofs.Common.{◌≡◌, ◌∙◌, ap, sym, subst, rules, ℕ, List, Option, Some, Box, Global}
use Rattle.codec_payload_handle.specs.Kinds.{OnPacketHistory, StaysPacketHistory}
use Rattle.codec_payload_handle.specs.declared.object.Object.{Object}
use Rattle.codec_payload_handle.specs.declared.object.Object.TheVariants as objects
use Rattle.codec_payload_handle.specs.declared.object.PacketHistory.{PacketHistory}
use Rattle.codec_payload_c_packets.specs.Histories.{KeepsDatagramOnce}
use Rattle.codec_payload_c.proofs.history.cpay_history_keep_once.Goals as goal
use Rattle.codec_payload_c.proofs.history.cpay_history_keep_once.Goals.{in-PacketHistory, in_default-deref_mut}

-- the handle has a history before and after
stays : (Does : PacketHistory → PacketHistory → Type 0) (before after : Option Object) (r s : Box PacketHistory Global)
    → before ≡ Some (objects.PacketHistory r) → after ≡ Some (objects.PacketHistory s) → Does r.value s.value → OnPacketHistory before Does after
stays Does before after r s was is done =
    subst (λ (o : Option Object). OnPacketHistory o Does after) (sym was) (subst (λ (o : Option Object). StaysPacketHistory (Does r.value) o) (sym is) done)

-- the same history, status and answer
keeps_as : (held r : PacketHistory) (datagram : List ℕ) (known status before told answer : ℕ) (s : PacketHistory)
    → held ≡ r → status ≡ known → answer ≡ told → KeepsDatagramOnce held datagram known before told s → KeepsDatagramOnce r datagram status before answer s
keeps_as held r datagram known status before told answer s same_history same_status same_answer keeps =
    let a = subst (λ (x : PacketHistory). KeepsDatagramOnce x datagram known before told s) same_history keeps in
    let b = subst (λ (x : ℕ). KeepsDatagramOnce r datagram x before told s) (sym same_status) a in
    subst (λ (x : ℕ). KeepsDatagramOnce r datagram status before x s) (sym same_answer) b

pub returns-clause-keeps : goal.returns-clause-keeps
returns-clause-keeps c = elim c.match-deref_mut.branch [
  | in-PacketHistory w ↦
      let was : c.args.handle.now.place.value ≡ Some (objects.PacketHistory w.in-PacketHistory.history) = sym c.in-Some.ensures.value ∙ ap Some (sym c.deref_mut.ensures.value ∙ w.in-PacketHistory.is) in
      let is = c.put.ensures ∙ ap (λ (b : Box Object Global). Some b.value) w.object-is in
      let keeps = keeps_as w.deref_mut-in-PacketHistory.result.now w.in-PacketHistory.history.value c.args.datagram.now _ _ _ _ _ w.keep_once-status.new.history w.deref_mut-in-PacketHistory.ensures.value w.status-is w.kept-is w.keep_once-status.ensures.keeps in
      stays (λ (r s : PacketHistory). KeepsDatagramOnce r c.args.datagram.now c.match-deref_mut.status c.args.kept.now c.match-deref_mut.kept s) _ _ _ _ was is keeps
  | in_default-deref_mut w ↦ search rules
]
