use Rattle.std.proofs.Common.{◌∙◌, ap}
use Rattle.codec_payload_session_stream.specs.Waking.{ssrcs_of}
use Rattle.codec_payload_session_stream.specs.Streams.{is_of, trip_if}
use Rattle.codec_payload_session.proofs.SsrcLemmas.{forgotten, same_mapped, trip_when_ssrc}
use Rattle.codec_payload_session.proofs.streams.Streams.set_round_trip.Goals as goal

pub invariant_of-self : goal.invariant_of-self
invariant_of-self c =
    let same = ap ssrcs_of c.set_round_trip.ensures ∙ same_mapped (trip_if c.args.ssrc c.args.payload_type c.args.round_trip) c.deref_mut.result.now (λ s. trip_when_ssrc (is_of c.args.ssrc c.args.payload_type s) c.args.round_trip s) ∙ ap ssrcs_of c.deref_mut.ensures.value in
    forgotten c.forget.new.self c.self.inside.ssrcs c.self.inside.list c.set_round_trip.new.streams c.forget.ensures c.self.invariant.listed same
