use Rattle.std.proofs.Common.{IsFalse, IsTrue, Bool, subst}
use Rattle.codec_payload_session_stream.specs.Renegotiation.{IsAmong, IsGone}
use Rattle.codec_payload_session_stream.specs.declared.stream.StreamState.{StreamState}
use Rattle.codec_payload_session_stream.proofs.RenegotiationLemmas.{asked_on}
use Rattle.codec_payload_session_stream.proofs.renegotiation.leave_formats.Goals as goal

pub loop-place-preserved : goal.loop-place-preserved
loop-place-preserved c =
    let found : Bool = c.has_format-is_gone.result in
    asked_on c.args.formats.now c.args.at c.args.streams.now c.loop-place.streams c.loop-place.place c.index-streams-place.result c.leave_if.new.self found c.loop-place-test.true c.loop-place.invariant
    (subst (λ (s : StreamState). IsTrue found → IsAmong s.format c.args.formats.now) c.stream.view_is c.has_format-is_gone.ensures.there)
    (subst (λ (s : StreamState). IsFalse found → IsGone s.format c.args.formats.now) c.stream.view_is c.has_format-is_gone.ensures.gone)
    c.leave_if.ensures
