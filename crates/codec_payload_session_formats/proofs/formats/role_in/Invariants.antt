use Rattle.std.proofs.Common.{◌≡◌, drop}
use Rattle.codec_payload_session_formats.specs.Formats.{role_by}
use Rattle.codec_payload_session_formats.proofs.formats.role_in.Given as goal

abbrev pub invariant-loop-format : goal.invariant-loop-format
invariant-loop-format l = role_by (drop l.format-index l.formats) l.no_media l.telephone_events l.payload_type ≡ role_by l.formats l.no_media l.telephone_events l.payload_type
