use Rattle.std.proofs.Common.{ap, map, sym, ◌∙◌, ◌++◌, List, append_assoc, append-nil}
use Rattle.codec_payload_buffer.specs.Held.{held_of}
use Rattle.codec_payload_buffer.specs.Steps.{metas_of}
use Rattle.codec_payload_buffer.specs.declared.buffer.held_packet.HeldPacket.{HeldPacket}
use Rattle.codec_payload_buffer.proofs.RangeLemmas.{none_from, rest_from}
use Rattle.codec_payload_buffer.proofs.buffer.packets.copy_metas.Goals as goal

pub loop-place-preserved : goal.loop-place-preserved
loop-place-preserved c =
    let items = c.args.packets.now.items in
    let rest = rest_from items c.loop-place.place c.args.to c.at.result.now c.loop-place-test.true c.requires.within c.at.ensures in
    rw (c.in_ok-push_told.ensures, append_assoc) (ap (λ (xs : List HeldPacket). c.loop-place.metas.items ++ metas_of (map held_of xs)) (sym rest) ∙ c.loop-place.invariant)

pub returns : goal.returns
returns c =
    let none = none_from c.args.packets.now.items c.loop-place.place c.args.to c.loop-place-test.false in
    sym (append-nil _) ∙ ap (λ (xs : List HeldPacket). c.loop-place.metas.items ++ metas_of (map held_of xs)) (sym none) ∙ c.loop-place.invariant
