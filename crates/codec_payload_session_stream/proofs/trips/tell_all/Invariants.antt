use Rattle.std.proofs.Common.{◌≡◌, ◌++◌, drop, take}
use Rattle.codec_payload_session_stream.specs.Trips.{with_round_trips}
use Rattle.codec_payload_session_stream.proofs.trips.tell_all.Given as goal

abbrev pub invariant-loop-place : goal.invariant-loop-place
invariant-loop-place l = l.streams ≡ with_round_trips l.round_trip (take l.place l.initial.streams) ++ drop l.place l.initial.streams
