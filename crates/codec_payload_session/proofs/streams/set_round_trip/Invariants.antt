use Rattle.std.proofs.Common.{◌≡◌, ◌++◌, drop, take}
use Rattle.codec_payload_session_stream.specs.Streams.{trips_where}
use Rattle.codec_payload_session.proofs.streams.set_round_trip.Given as goal

abbrev pub invariant-loop-place : goal.invariant-loop-place
invariant-loop-place l =
    l.streams ≡ trips_where l.ssrc l.payload_type l.round_trip (take l.place l.initial.streams) ++ drop l.place l.initial.streams
