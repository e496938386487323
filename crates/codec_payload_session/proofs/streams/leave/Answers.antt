use Rattle.codec_payload_session.specs.Arrivals.{includes, left_if}
use Rattle.codec_payload_session_stream.proofs.QuietLemmas.{preserved}
use Rattle.codec_payload_session.proofs.streams.leave.Goals as goal

pub loop-place-preserved : goal.loop-place-preserved
loop-place-preserved c =
    preserved (left_if (includes c.args.who) c.args.why c.args.at) c.args.streams.now c.loop-place.streams c.loop-place.place c.index-streams-place.result c.leave_if.new.stream
    c.loop-place-test.true c.loop-place.invariant c.leave_if.ensures
