use Rattle.std.proofs.Common.{◌≡◌, drop}
use Rattle.codec_payload_session_formats.specs.Checks.{is_named}
use Rattle.codec_payload_session_formats.proofs.checks.is_named.Given as goal

abbrev pub invariant-loop-format : goal.invariant-loop-format
invariant-loop-format l = is_named (drop l.format-index l.formats) l.payload_type ≡ is_named l.formats l.payload_type
