use Rattle.std.proofs.Common.{◌≡◌, drop}
use Rattle.codec_payload_rtp.specs.ExtensionWriting.{is_apart}
use Rattle.codec_payload_rtp.proofs.writing.is_apart.Given as goal

abbrev pub invariant-loop-other : goal.invariant-loop-other
invariant-loop-other l = is_apart l.id (drop l.other-index l.others) ≡ is_apart l.id l.others
