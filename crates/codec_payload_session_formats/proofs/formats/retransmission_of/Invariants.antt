use Rattle.std.proofs.Common.{◌≡◌, drop}
use Rattle.codec_payload_session_formats.specs.Formats.{retransmission_of}
use Rattle.codec_payload_session_formats.proofs.formats.retransmission_of.Given as goal

abbrev pub invariant-loop-pair : goal.invariant-loop-pair
invariant-loop-pair l = retransmission_of l.ssrc l.payload_type (drop l.pair-index l.pairs) ≡ retransmission_of l.ssrc l.payload_type l.pairs
