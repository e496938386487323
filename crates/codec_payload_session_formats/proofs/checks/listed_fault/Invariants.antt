use Rattle.std.proofs.Common.{◌≡◌, drop}
use Rattle.codec_payload_session_formats.specs.Checks.{listed_fault}
use Rattle.codec_payload_session_formats.proofs.checks.listed_fault.Given as goal

abbrev pub invariant-loop-t : goal.invariant-loop-t
invariant-loop-t l = listed_fault l.formats l.others (drop l.t-index l.types) ≡ listed_fault l.formats l.others l.types
