use Rattle.std.proofs.Common.{◌≡◌, ◌++◌, drop, take}
use Rattle.codec_payload_session_stream.specs.Pairs.{paired_where}
use Rattle.codec_payload_session_stream.proofs.pairs.pair.Given as goal

abbrev pub invariant-loop-place : goal.invariant-loop-place
invariant-loop-place l = l.streams ≡ paired_where l.ssrc l.pairs (take l.place l.initial.streams) ++ drop l.place l.initial.streams
