use Rattle.std.proofs.Common.{◌≡◌, drop}
use Rattle.codec_payload_session.specs.Reporting.{any_announced}
use Rattle.codec_payload_session.proofs.reporter.any_announced.Given as goal

abbrev pub invariant-loop-stream : goal.invariant-loop-stream
invariant-loop-stream l = any_announced (drop l.stream-index l.streams) ≡ any_announced l.streams
