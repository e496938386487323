use Rattle.std.proofs.Common.{◌≡◌, ◌++◌, List, drop, take}
use Rattle.codec_payload_session_stream.specs.Turns.{AreQuiet}
use Rattle.codec_payload_session_stream.specs.declared.stream.StreamState.{StreamState}
use Rattle.codec_payload_session.proofs.streams.step_first.Given as goal

-- the streams so far were quiet
abbrev pub invariant-loop-place : goal.invariant-loop-place
invariant-loop-place l =
    (quiet : List StreamState) × AreQuiet l.now l.idle_timeout (take l.place l.initial.streams) quiet × (l.streams ≡ quiet ++ drop l.place l.initial.streams)
