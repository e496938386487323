use Rattle.codec_payload_session_stream.proofs.RenegotiationLemmas.{Reaches}
use Rattle.codec_payload_session_stream.proofs.renegotiation.leave_formats.Given as goal

abbrev pub invariant-loop-place : goal.invariant-loop-place
invariant-loop-place l = Reaches l.formats l.at l.initial.streams l.place l.streams
