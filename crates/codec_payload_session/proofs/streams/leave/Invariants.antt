use Rattle.std.proofs.Common.{◌≡◌, ◌++◌, drop, take}
use Rattle.codec_payload_session.specs.Arrivals.{includes, left_where}
use Rattle.codec_payload_session.proofs.streams.leave.Given as goal

abbrev pub invariant-loop-place : goal.invariant-loop-place
invariant-loop-place l = l.streams ≡ left_where (includes l.who) l.why l.at (take l.place l.initial.streams) ++ drop l.place l.initial.streams
