use Rattle.std.proofs.Common.{◌∙◌, ap}
use Rattle.codec_payload_session_stream.specs.Waking.{ssrcs_of}
use Rattle.codec_payload_session_stream.specs.Streams.{is_of, waiting_if}
use Rattle.codec_payload_session.proofs.SsrcLemmas.{forgotten, same_mapped, waiting_when_ssrc}
use Rattle.codec_payload_session.proofs.streams.Streams.set_wait_limits.Goals as goal

pub invariant_of-self : goal.invariant_of-self
invariant_of-self c =
    let same = ap ssrcs_of c.set_wait_limits.ensures ∙ same_mapped (waiting_if c.args.ssrc c.args.payload_type c.args.wait_limits) c.deref_mut.result.now (λ s. waiting_when_ssrc (is_of c.args.ssrc c.args.payload_type s) c.args.wait_limits s) ∙ ap ssrcs_of c.deref_mut.ensures.value in
    forgotten c.forget.new.self c.self.inside.ssrcs c.self.inside.list c.set_wait_limits.new.streams c.forget.ensures c.self.invariant.listed same
