use Rattle.codec_payload_session_stream.specs.Trips.{with_round_trip}
use Rattle.codec_payload_session_stream.proofs.QuietLemmas.{preserved}
use Rattle.codec_payload_session_stream.proofs.trips.tell_all.Goals as goal

pub loop-place-preserved : goal.loop-place-preserved
loop-place-preserved c =
    preserved (with_round_trip c.args.round_trip) c.args.streams.now c.loop-place.streams c.loop-place.place c.index-streams-place.result
    c.tell_round_trip.new.self c.loop-place-test.true c.loop-place.invariant c.tell_round_trip.ensures
