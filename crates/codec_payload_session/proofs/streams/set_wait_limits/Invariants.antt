use Rattle.std.proofs.Common.{◌≡◌, ◌++◌, drop, take}
use Rattle.codec_payload_session_stream.specs.Streams.{waiting_where}
use Rattle.codec_payload_session.proofs.streams.set_wait_limits.Given as goal

abbrev pub invariant-loop-place : goal.invariant-loop-place
invariant-loop-place l =
    l.streams ≡ waiting_where l.ssrc l.payload_type l.wait_limits (take l.place l.initial.streams) ++ drop l.place l.initial.streams
