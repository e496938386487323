use Rattle.codec_payload_session_stream.specs.Changes.{left_behind}
use Rattle.codec_payload_session_stream.proofs.QuietLemmas.{preserved}
use Rattle.codec_payload_session_stream.proofs.changes.leave_behind.Goals as goal

pub loop-place-preserved : goal.loop-place-preserved
loop-place-preserved c =
    preserved (left_behind c.args.now c.args.wait c.args.of.0 c.args.of.1) c.args.streams.now c.loop-place.streams c.loop-place.place c.index-streams-place.result
    c.leave_behind.new.self c.loop-place-test.true c.loop-place.invariant c.leave_behind.ensures
