use Rattle.std.proofs.Common.{◌≡◌, ◌∷◌, [], sym, subst, arith, map, List}
use Rattle.std.specs.Prelude.{slice_range}
use Rattle.codec_payload_codec.specs.Depacketizers.{DepacketizerState, depacketizer_state_of}
use Rattle.codec_payload_buffer.specs.Held.{Held, held_of}
use Rattle.codec_payload_buffer.specs.Steps.{OwnUnpacks, Unpacked, Unpacks, answer_of}
use Rattle.codec_payload_buffer.proofs.OnePacketLemmas.{one_held, one_own, one_unpacked}
use Rattle.codec_payload_buffer.proofs.OwnLemmas.{still_own}
use Rattle.codec_payload_buffer.proofs.buffer.one_packet.unpack_frame.Goals as goal

pub returns-clause-unpacks : goal.returns-clause-unpacks
returns-clause-unpacks g c =
    let one : map held_of (slice_range c.args.packets.now.items c.args.from c.args.to) ≡ held_of c.at.result.now ∷ [] =
    one_held c.args.packets.now.items c.args.from c.args.to c.at.result.now (omega (arith, c.if-to-from-ne1.false)) (omega (arith, c.requires.within)) c.at.ensures in
    let d : DepacketizerState = depacketizer_state_of c.args.depacketizer.now in
    let e : DepacketizerState = depacketizer_state_of c.depacketize.new.self in
    let u : Unpacked = record { bytes = c.args.bytes.now.items; extra = c.args.codec_extra.now } in
    let v : Unpacked = record { bytes = c.depacketize.new.out.items; extra = c.depacketize.new.codec_extra } in
    let step = rw (c.deref-2.ensures.value, c.deref.ensures) at c.depacketize.ensures.built_in in
    subst (λ (ps : List Held). Unpacks d ps u (answer_of c.depacketize.result v) e) (sym one) (one_unpacked d (held_of c.at.result.now) u v c.depacketize.result e step)

pub returns-clause-own : goal.returns-clause-own
returns-clause-own g c = λ before is.
    let one : map held_of (slice_range c.args.packets.now.items c.args.from c.args.to) ≡ held_of c.at.result.now ∷ [] =
    one_held c.args.packets.now.items c.args.from c.args.to c.at.result.now (omega (arith, c.if-to-from-ne1.false)) (omega (arith, c.requires.within)) c.at.ensures in
    let u : Unpacked = record { bytes = c.args.bytes.now.items; extra = c.args.codec_extra.now } in
    let v : Unpacked = record { bytes = c.depacketize.new.out.items; extra = c.depacketize.new.codec_extra } in
    let mid = still_own c.args.depacketizer.now c.depacketize.new.self before is c.depacketize.ensures.kind in
    let step = rw (c.deref-2.ensures.value, c.deref.ensures, is, mid.1) at c.depacketize.ensures.step in (
      mid.0,
      mid.1,
      subst (λ (ps : List Held). OwnUnpacks g.B.Depacketizer.state g.B.Depacketizer.depacketize_step before ps u (answer_of c.depacketize.result v) mid.0) (sym one)
          (one_own g.B.Depacketizer.state g.B.Depacketizer.depacketize_step before (held_of c.at.result.now) u v c.depacketize.result mid.0 step),
    )
