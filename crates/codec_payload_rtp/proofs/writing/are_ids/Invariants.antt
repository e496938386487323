use Rattle.std.proofs.Common.{◌≡◌, length}
use Rattle.codec_payload_rtp.specs.ExtensionWriting.{are_ids}
use Rattle.codec_payload_rtp.proofs.writing.are_ids.Given as goal

abbrev pub invariant-loop-rest : goal.invariant-loop-rest
invariant-loop-rest l = are_ids l.rest ≡ are_ids l.ids

abbrev pub decreases-loop-rest : goal.decreases-loop-rest
decreases-loop-rest l = length l.rest
