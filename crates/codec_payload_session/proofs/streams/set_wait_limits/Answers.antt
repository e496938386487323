use Rattle.codec_payload_session_stream.specs.Streams.{waiting_if}
use Rattle.codec_payload_session_stream.proofs.QuietLemmas.{preserved}
use Rattle.codec_payload_session.proofs.streams.set_wait_limits.Goals as goal

pub loop-place-preserved : goal.loop-place-preserved
loop-place-preserved c =
    preserved (waiting_if c.args.ssrc c.args.payload_type c.args.wait_limits) c.args.streams.now c.loop-place.streams c.loop-place.place
    c.index-streams-place.result c.wait_if.new.self c.loop-place-test.true c.loop-place.invariant c.wait_if.ensures
