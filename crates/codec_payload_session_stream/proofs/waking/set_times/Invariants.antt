use Rattle.std.proofs.Common.{◌≤◌, length, take}
use Rattle.codec_payload_session_stream.specs.Waking.{AllWake}
use Rattle.codec_payload_session_stream.proofs.waking.set_times.Given as goal

-- the times of the streams so far
abbrev pub invariant-loop-place : goal.invariant-loop-place
invariant-loop-place l = record {
  timed : AllWake l.idle_timeout l.times (take l.place l.streams);
  room : length l.streams ≤ length l.times;
}
