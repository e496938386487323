use Rattle.std.proofs.Common.{◌∙◌, ap}
use Rattle.codec_payload_session_stream.specs.Waking.{ssrcs_of}
use Rattle.codec_payload_session.proofs.SsrcLemmas.{forgotten, same_trips}
use Rattle.codec_payload_session.proofs.streams.Streams.tell_trip.Goals as goal

pub invariant_of-self : goal.invariant_of-self
invariant_of-self c =
    let same = ap ssrcs_of c.tell_all.ensures ∙ same_trips c.self.inside.exchange.round_trip c.deref_mut.result.now ∙ ap ssrcs_of c.deref_mut.ensures.value in
    forgotten c.forget.new.self c.self.inside.ssrcs c.self.inside.list c.tell_all.new.streams c.forget.ensures c.self.invariant.listed same
