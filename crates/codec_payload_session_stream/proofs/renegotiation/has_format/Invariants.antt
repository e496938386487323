use Rattle.std.proofs.Common.{take}
use Rattle.codec_payload_session_stream.specs.Renegotiation.{IsGone}
use Rattle.codec_payload_session_stream.proofs.renegotiation.has_format.Given as goal

abbrev pub invariant-loop-other : goal.invariant-loop-other
invariant-loop-other l = IsGone l.format (take l.other-index l.formats)
