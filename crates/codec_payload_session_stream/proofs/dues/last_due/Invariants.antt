use Rattle.std.proofs.Common.{◌≡◌, drop}
use Rattle.codec_payload_session_stream.specs.Streams.{due_in, earlier}
use Rattle.codec_payload_session_stream.proofs.dues.last_due.Given as goal

abbrev pub invariant-loop-stream : goal.invariant-loop-stream
invariant-loop-stream l = earlier l.due (due_in l.idle_timeout (drop l.stream-index l.streams)) ≡ due_in l.idle_timeout l.streams
