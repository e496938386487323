use Rattle.std.proofs.Common.{◌≡◌, drop}
use Rattle.codec_payload_session.specs.Reporting.{has_announced}
use Rattle.codec_payload_session.proofs.reporter.has_announced.Given as goal

abbrev pub invariant-loop-stream : goal.invariant-loop-stream
invariant-loop-stream l = has_announced l.ssrc (drop l.stream-index l.streams) ≡ has_announced l.ssrc l.streams
