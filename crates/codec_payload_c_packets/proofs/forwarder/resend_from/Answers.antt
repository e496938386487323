use Rattle.std.proofs.Common.{◌≡◌, ◌∙◌, ap, sym, subst, rules, ℕ, Option, Some}
use Rattle.codec_payload_handle.specs.declared.object.Object.{Object}
use Rattle.codec_payload_handle.specs.declared.object.Object.TheVariants as objects
use Rattle.codec_payload_handle.specs.declared.object.PacketForwarder.{PacketForwarder}
use Rattle.codec_payload_handle.specs.declared.object.PacketHistory.{PacketHistory}
use Rattle.codec_payload_c_packets.specs.Forwarders.{ResendsFrom, ResendsIn, Writing}
use Rattle.codec_payload_c_packets.proofs.forwarder.resend_from.Goals as goal
use Rattle.codec_payload_c_packets.proofs.forwarder.resend_from.Goals.{in-PacketHistory, in_default-deref}

-- a store is the one in the handle, and the values after the call are those that it left
resends_as : (held store : PacketHistory) (number : ℕ) (r : PacketForwarder) (known status : ℕ) (v w : Writing) (t s : PacketForwarder)
    → held ≡ store → status ≡ known → w ≡ v → s ≡ t → ResendsFrom held.history number r known v t → ResendsFrom store.history number r status w s
resends_as held store number r known status v w t s same_store same_status same_writing same_viewer told =
    let a = subst (λ (x : PacketHistory). ResendsFrom x.history number r known v t) same_store told in
    let b = subst (λ (x : ℕ). ResendsFrom store.history number r x v t) (sym same_status) a in
    let d = subst (λ (x : Writing). ResendsFrom store.history number r status x t) (sym same_writing) b in
    subst (λ (x : PacketForwarder). ResendsFrom store.history number r status w x) (sym same_viewer) d

pub returns-clause-resends : goal.returns-clause-resends
returns-clause-resends c = elim c.match-deref.branch [
  | in-PacketHistory w ↦
      let v : Writing = record { before = c.args.bytes.now; bytes = w.resend-answer.new.bytes; size_before = c.args.size.now; size = w.resend-answer.new.size; answer_before = c.args.resent.now; answer = w.resend-answer.new.resent } in
      let u : Writing = record { before = c.args.bytes.now; bytes = c.match-deref.bytes; size_before = c.args.size.now; size = c.match-deref.size; answer_before = c.args.resent.now; answer = c.match-deref.resent } in
      let same : u ≡ v = cc in
      let held : c.args.history.now.place.value ≡ Some (objects.PacketHistory w.in-PacketHistory.kept) = sym c.in-Some.ensures.value ∙ ap Some (sym c.deref.ensures ∙ w.in-PacketHistory.is) in
      let told = resends_as _ _ _ _ _ _ v u _ _ w.deref-in-PacketHistory.ensures w.answer-is same w.viewer-is w.resend-answer.ensures.resends in
      subst (λ (o : Option Object). ResendsIn o c.args.number c.args.viewer.now c.match-deref.answer u c.match-deref.viewer) (sym held) told
  | in_default-deref w ↦ search rules
]
