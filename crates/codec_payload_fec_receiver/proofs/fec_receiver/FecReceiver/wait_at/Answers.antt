use Rattle.std.proofs.Common.{◌<◌, length, map, refl, subst, sym, arith}
use Rattle.std.proofs.lemmas.List.{length-map}
use Rattle.codec_payload_fec_receiver.specs.States.{State, held_fec}
use Rattle.codec_payload_fec_receiver.proofs.HeldLemmas.{waits_is}
use Rattle.codec_payload_fec_receiver.proofs.fec_receiver.FecReceiver.wait_at.Goals as goal

pub returns : goal.returns
returns c =
    let Is : State → Type 0 = λ s. c.args.place < length s.fecs in
    let within : c.args.place < length (map held_fec c.self.inside.fecs.items) = subst Is (sym c.self.view_is) c.requires in
    waits_is c.self.inside.settings c.self.inside.first c.self.inside.store c.self.inside.fecs.items c.self.inside.is_fresh c.args.self.now c.args.place c.index_mut.result.now _ c.self.view_is
    (omega (arith, within, length-map c.self.inside.fecs.items held_fec)) c.index_mut.ensures.value refl
