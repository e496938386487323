use Rattle.std.proofs.Common.{◌≡◌, ◌∙◌, Option, false, refl, subst, sym}
use Rattle.codec_payload_session.specs.Associations.{TakesInBy, is_unassociated}
use Rattle.codec_payload_session_formats.specs.declared.formats.SsrcPair.{SsrcPair}
use Rattle.codec_payload_session.proofs.AssociationLemmas.{no_pair}
use Rattle.codec_payload_session.proofs.association.receive_or_associate.Goals as goal

pub returns-then-not-is_unassociated : goal.returns-then-not-is_unassociated
returns-then-not-is_unassociated c =
    let other : is_unassociated c.take_in-answer.result ≡ false = sym c.is_unassociated.ensures ∙ c.if-not-is_unassociated.true in
    subst (λ (o : Option SsrcPair). TakesInBy o c.args.now c.args.datagram.now c.args.settings.now c.args.streams.now c.take_in-answer.result c.args.settings.now c.take_in-answer.new.self)
    (sym (no_pair c.args.settings.now c.args.now c.args.datagram.now c.args.streams.now c.take_in-answer.result c.take_in-answer.new.self c.args.now.0 c.args.streams.now.streams c.take_in-answer.ensures other))
    (c.take_in-answer.ensures, refl)
