use Rattle.std.proofs.Common.{◌∙◌, ap}
use Rattle.codec_payload_session_stream.specs.Waking.{ssrcs_of}
use Rattle.codec_payload_session.specs.Arrivals.{includes, left_if}
use Rattle.codec_payload_session_stream.specs.declared.stream.Ending.TheVariants as endings
use Rattle.codec_payload_session.specs.declared.streams.Who.TheVariants as whos
use Rattle.codec_payload_session.proofs.SsrcLemmas.{forgotten, left_ssrc, same_mapped}
use Rattle.codec_payload_session.proofs.streams.Streams.finish.Goals as goal

pub invariant_of-self : goal.invariant_of-self
invariant_of-self c =
    let same = ap ssrcs_of c.leave.ensures ∙ same_mapped (left_if (includes whos.All) endings.ByCall c.args.at) c.deref_mut.result.now (λ s. left_ssrc (includes whos.All s.ssrc) endings.ByCall c.args.at s) ∙ ap ssrcs_of c.deref_mut.ensures.value in
    forgotten c.forget.new.self c.self.inside.ssrcs c.self.inside.list c.leave.new.streams c.forget.ensures c.self.invariant.listed same
