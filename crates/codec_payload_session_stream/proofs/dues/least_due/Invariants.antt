use Rattle.std.proofs.Common.{◌≡◌, ◌<◌, ◌^◌, take}
use Rattle.codec_payload_session_stream.specs.Streams.{due_in}
use Rattle.codec_payload_session_stream.specs.Waking.{or_max}
use Rattle.codec_payload_session_stream.proofs.dues.least_due.Given as goal

abbrev pub invariant-loop-stream : goal.invariant-loop-stream
invariant-loop-stream l = (l.due ≡ or_max (due_in l.idle_timeout (take l.stream-index l.streams))) × (l.due < 2 ^ 64)
