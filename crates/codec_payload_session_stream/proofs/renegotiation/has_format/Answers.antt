use Rattle.std.proofs.Common.{◌≡◌, ◌∙◌, false, true, refl, sym}
use Rattle.codec_payload_session_stream.proofs.RenegotiationLemmas.{among, gone_on}
use Rattle.codec_payload_session_stream.proofs.renegotiation.has_format.Goals as goal

pub returns-then-is_same-clause-there : goal.returns-then-is_same-clause-there
returns-then-is_same-clause-there c =
    λ _. among c.args.format.now c.other-item.result c.args.formats.now c.loop-other.other-index c.loop-other-test.true (sym c.other-item.is ∙ c.if-is_same.ensures.same refl)

pub loop-other-preserved : goal.loop-other-preserved
loop-other-preserved c =
    gone_on c.args.format.now c.other-item.result c.args.formats.now c.loop-other.other-index c.loop-other-test.true c.loop-other.invariant
    (λ is. let no : false ≡ true = c.if-is_same.ensures.different refl (c.other-item.is ∙ is) in absurd (cc))
