use Rattle.std.proofs.Common.{◌≡◌, drop}
use Rattle.codec_payload_session_formats.specs.Formats.{stream_of}
use Rattle.codec_payload_session_formats.proofs.formats.stream_of.Given as goal

abbrev pub invariant-loop-pair : goal.invariant-loop-pair
invariant-loop-pair l = stream_of l.retransmission (drop l.pair-index l.pairs) ≡ stream_of l.retransmission l.pairs
