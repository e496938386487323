use Rattle.std.proofs.Common.{◌≡◌, length}
use Rattle.codec_payload_session_stream.proofs.waking.find_times.Given as goal

-- there are as many times
abbrev pub invariant-loop-place : goal.invariant-loop-place
invariant-loop-place l = length l.times ≡ length l.initial.times
