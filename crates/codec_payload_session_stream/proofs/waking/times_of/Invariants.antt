use Rattle.std.proofs.Common.{◌≡◌, length, take}
use Rattle.codec_payload_session_stream.specs.Waking.{AllWake}
use Rattle.codec_payload_session_stream.proofs.waking.times_of.Given as goal

-- the times of the streams so far
abbrev pub invariant-loop-stream : goal.invariant-loop-stream
invariant-loop-stream l = record {
  timed : AllWake l.idle_timeout l.times.items (take l.stream-index l.streams);
  count : length l.times.items ≡ l.stream-index;
}

-- those of all of them, and more times
abbrev pub invariant-loop : goal.invariant-loop
invariant-loop l = AllWake l.idle_timeout l.times.items l.streams
