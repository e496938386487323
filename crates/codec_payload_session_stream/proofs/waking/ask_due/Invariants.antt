use Rattle.std.proofs.Common.{◌≡◌, ◌≤◌, ◌-◌, ◌++◌, List, drop, length, take}
use Rattle.codec_payload_session_stream.specs.Streams.{StreamState}
use Rattle.codec_payload_session_stream.specs.Turns.{AreQuiet}
use Rattle.codec_payload_session_stream.specs.Waking.{AllWake}
use Rattle.codec_payload_session_stream.proofs.waking.ask_due.Given as goal

-- the streams so far were quiet
abbrev pub invariant-loop-place : goal.invariant-loop-place
invariant-loop-place l = record {
  quiet : (quiet : List StreamState) × AreQuiet l.now l.idle_timeout (take l.from l.initial.streams) quiet × (l.streams ≡ quiet ++ drop l.from l.initial.streams);
  timed : AllWake l.idle_timeout l.times l.streams;
  within : l.from ≤ length l.initial.streams;
}

-- the streams that are left
abbrev pub decreases-loop-place : goal.decreases-loop-place
decreases-loop-place l = length l.initial.streams - l.from
