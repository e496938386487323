use Rattle.std.proofs.Common.{sym, ◌∙◌}
use Rattle.std.proofs.lemmas.Bool.{ltb-true}
use Rattle.codec_payload_index.specs.Ssrcs.{key}
use Rattle.codec_payload_index.proofs.EntryLemmas.{before_of}
use Rattle.codec_payload_index.proofs.ssrcs.are_before.Goals as goal

pub returns-else-at-eq0 : goal.returns-else-at-eq0
returns-else-at-eq0 c = λ holds.
    before_of (key c.args.ssrc c.args.from) c.args.at c.args.entries.now (record { ssrc = 0; place = 0 }) c.requires.rises c.if-at-eq0.false c.requires.within
    (ltb-true _ _ (sym c.comes_before.ensures ∙ holds))
