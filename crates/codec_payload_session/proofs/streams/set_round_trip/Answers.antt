use Rattle.codec_payload_session_stream.specs.Streams.{trip_if}
use Rattle.codec_payload_session_stream.proofs.QuietLemmas.{preserved}
use Rattle.codec_payload_session.proofs.streams.set_round_trip.Goals as goal

pub loop-place-preserved : goal.loop-place-preserved
loop-place-preserved c =
    preserved (trip_if c.args.ssrc c.args.payload_type c.args.round_trip) c.args.streams.now c.loop-place.streams c.loop-place.place
    c.index-streams-place.result c.set_round_trip_if.new.self c.loop-place-test.true c.loop-place.invariant c.set_round_trip_if.ensures
