use Rattle.std.proofs.Common.{◌≡◌, drop}
use Rattle.codec_payload_datagrams.specs.Kinds.{is_among}
use Rattle.codec_payload_session_formats.proofs.formats.is_among.Given as goal

abbrev pub invariant-loop-t : goal.invariant-loop-t
invariant-loop-t l = is_among l.payload_type (drop l.t-index l.types) ≡ is_among l.payload_type l.types
