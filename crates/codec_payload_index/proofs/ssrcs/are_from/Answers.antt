use Rattle.std.proofs.Common.{sym, ◌∙◌}
use Rattle.std.proofs.lemmas.Bool.{ltb-false, not-true}
use Rattle.codec_payload_index.specs.Ssrcs.{key}
use Rattle.codec_payload_index.proofs.EntryLemmas.{from_of}
use Rattle.codec_payload_index.proofs.ssrcs.are_from.Goals as goal

pub returns-else-at-entries : goal.returns-else-at-entries
returns-else-at-entries c = λ holds.
    from_of (key c.args.ssrc c.args.from) c.args.at c.args.entries.now (record { ssrc = 0; place = 0 }) c.requires.rises c.if-at-entries.false c.requires.within
    (ltb-false _ _ (sym c.comes_before.ensures ∙ not-true _ holds))
