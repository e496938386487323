use Rattle.std.proofs.Common.{◌≡◌, ◌≤◌, ◌-◌, ◌++◌, drop, length, take}
use Rattle.codec_payload_session.specs.Arrivals.{includes, left_where}
use Rattle.codec_payload_session_stream.specs.declared.stream.Ending.TheVariants as endings
use Rattle.codec_payload_session.specs.declared.streams.Who.TheVariants as whos
use Rattle.codec_payload_session.proofs.goodbyes.leave_of.Given as goal

-- the streams so far
abbrev pub invariant-loop-place : goal.invariant-loop-place
invariant-loop-place l = record {
  changed : l.streams ≡ left_where (includes (whos.Of l.ssrc)) endings.Bye l.at (take l.from l.initial.streams) ++ drop l.from l.initial.streams;
  within : l.from ≤ length l.initial.streams;
}

-- the streams that are left
abbrev pub decreases-loop-place : goal.decreases-loop-place
decreases-loop-place l = length l.initial.streams - l.from
