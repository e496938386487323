use Rattle.std.proofs.Common.{◌≡◌, ◌≤◌, ◌-◌, ◌++◌, drop, length, take}
use Rattle.codec_payload_session_stream.specs.Reports.{clocked_where}
use Rattle.codec_payload_session_stream.proofs.reports.set_clocks.Given as goal

-- the streams so far
abbrev pub invariant-loop-place : goal.invariant-loop-place
invariant-loop-place l = record {
  changed : l.streams ≡ clocked_where l.ssrc l.clock (take l.from l.initial.streams) ++ drop l.from l.initial.streams;
  within : l.from ≤ length l.initial.streams;
}

-- the streams that are left
abbrev pub decreases-loop-place : goal.decreases-loop-place
decreases-loop-place l = length l.initial.streams - l.from
