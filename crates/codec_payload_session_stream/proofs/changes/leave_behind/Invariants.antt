use Rattle.std.proofs.Common.{◌≡◌, ◌++◌, drop, map, take}
use Rattle.codec_payload_session_stream.specs.Changes.{left_behind}
use Rattle.codec_payload_session_stream.proofs.changes.leave_behind.Given as goal

abbrev pub invariant-loop-place : goal.invariant-loop-place
invariant-loop-place l = l.streams ≡ map (left_behind l.now l.wait l.of.0 l.of.1) (take l.place l.initial.streams) ++ drop l.place l.initial.streams
