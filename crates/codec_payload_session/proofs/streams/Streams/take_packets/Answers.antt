use Rattle.std.proofs.Common.{◌≡◌, ◌∙◌, List, ap, refl, subst, sym}
use Rattle.codec_payload_rtcp.specs.RtcpReading.{packets_left}
use Rattle.codec_payload_session.specs.Arrivals.{left_if, say_goodbye}
use Rattle.codec_payload_session_stream.specs.Reports.{noted, noted_where}
use Rattle.codec_payload_session_stream.specs.Streams.{StreamState}
use Rattle.codec_payload_session_stream.specs.Waking.{IsBound, ssrcs_of}
use Rattle.codec_payload_session_stream.specs.declared.stream.Ending.TheVariants as endings
use Rattle.codec_payload_session.proofs.SsrcLemmas.{forgotten, kept, left_ssrc, same_mapped}
use Rattle.codec_payload_session_stream.proofs.WakingLemmas.{bound_noted}
use Rattle.codec_payload_session.proofs.streams.Streams.take_packets.Goals as goal

pub invariant_of-self : goal.invariant_of-self
invariant_of-self c =
    let ps = packets_left c.args.packets in
    let same = ap ssrcs_of c.take_packets.ensures.taken
    ∙ same_mapped (left_if (λ ssrc. say_goodbye ssrc ps) endings.Bye c.args.at) (noted_where c.args.now ps c.deref_mut.result.now) (λ s. left_ssrc (say_goodbye s.ssrc ps) endings.Bye c.args.at s)
    ∙ same_mapped (noted c.args.now ps) c.deref_mut.result.now (λ s. refl) ∙ ap ssrcs_of c.deref_mut.ensures.value in
    forgotten c.forget.new.self c.self.inside.ssrcs c.self.inside.list c.take_packets.new.streams c.forget.ensures c.self.invariant.listed same

pub invariant_of-self-else-take_packets : goal.invariant_of-self-else-take_packets
invariant_of-self-else-take_packets c =
    let ps = packets_left c.args.packets in
    let same = ap ssrcs_of c.take_packets.ensures.taken
    ∙ same_mapped (left_if (λ ssrc. say_goodbye ssrc ps) endings.Bye c.args.at) (noted_where c.args.now ps c.deref_mut.result.now) (λ s. left_ssrc (say_goodbye s.ssrc ps) endings.Bye c.args.at s)
    ∙ same_mapped (noted c.args.now ps) c.deref_mut.result.now (λ s. refl) ∙ ap ssrcs_of c.deref_mut.ensures.value in
    let before : IsBound c.self.inside.waking c.deref_mut.result.now = subst (λ (l : List StreamState). IsBound c.self.inside.waking l) (sym c.deref_mut.ensures.value) c.self.invariant.bound in
    let stays : c.take_packets.new.streams ≡ noted_where c.args.now ps c.deref_mut.result.now = c.take_packets.ensures.stays c.if-take_packets.false in
    kept c.self.inside.waking c.self.inside.ssrcs c.self.inside.list c.take_packets.new.streams
    (subst (λ (l : List StreamState). IsBound c.self.inside.waking l) (sym stays) (bound_noted c.self.inside.waking c.args.now ps c.deref_mut.result.now before)) c.self.invariant.listed same
