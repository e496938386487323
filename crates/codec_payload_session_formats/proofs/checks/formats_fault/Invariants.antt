use Rattle.std.proofs.Common.{◌≡◌, [], drop, take}
use Rattle.codec_payload_session_formats.specs.Checks.{formats_fault}
use Rattle.codec_payload_session_formats.proofs.checks.formats_fault.Given as goal

abbrev pub invariant-loop-index : goal.invariant-loop-index
invariant-loop-index l = formats_fault (take l.index l.formats) (drop l.index l.formats) ≡ formats_fault [] l.formats
