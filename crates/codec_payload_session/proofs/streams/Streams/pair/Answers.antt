use Rattle.std.proofs.Common.{◌∙◌, ap}
use Rattle.codec_payload_session_stream.specs.Waking.{ssrcs_of}
use Rattle.std.specs.Prelude.{◌==◌}
use Rattle.codec_payload_session_stream.specs.Pairs.{paired_if}
use Rattle.codec_payload_session.proofs.SsrcLemmas.{forgotten, paired_when_ssrc, same_mapped}
use Rattle.codec_payload_session.proofs.streams.Streams.pair.Goals as goal

pub invariant_of-self : goal.invariant_of-self
invariant_of-self c =
    let same = ap ssrcs_of c.pair.ensures ∙ same_mapped (paired_if c.args.ssrc c.args.pairs.now) c.deref_mut.result.now (λ s. paired_when_ssrc (s.ssrc == c.args.ssrc) c.args.pairs.now s) ∙ ap ssrcs_of c.deref_mut.ensures.value in
    forgotten c.forget.new.self c.self.inside.ssrcs c.self.inside.list c.pair.new.streams c.forget.ensures c.self.invariant.listed same
