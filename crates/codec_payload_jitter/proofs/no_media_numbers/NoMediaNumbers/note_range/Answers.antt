use Rattle.std.proofs.Common.{◌∙◌, ap, arith, sym, subst}
use Rattle.codec_payload_jitter.specs.NoMediaNumbers.{Rises}
use Rattle.codec_payload_jitter.specs.NotedRanges.{latest_few}
use Rattle.codec_payload_jitter.proofs.RangeLemmas.{noted_between_rises}
use Rattle.codec_payload_jitter.proofs.no_media_numbers.NoMediaNumbers.note_range.Goals as goal

pub invariant_of-self : goal.invariant_of-self
invariant_of-self c =
    subst Rises (sym (c.in_ok-self-inside.ensures ∙ ap latest_few c.in_ok-all.ensures))
    (noted_between_rises c.args.first c.args.end c.self.inside.numbers.items (omega (arith, c.requires)) c.self.invariant)
