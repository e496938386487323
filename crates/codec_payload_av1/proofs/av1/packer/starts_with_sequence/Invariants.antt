use Rattle.std.proofs.Common.{◌≡◌, length}
use Rattle.codec_payload_av1.specs.Av1Obu.{frame_kept}
use Rattle.codec_payload_av1.proofs.av1.packer.starts_with_sequence.Given as goal

abbrev pub invariant-loop-obu : goal.invariant-loop-obu
invariant-loop-obu l = frame_kept l.rest ≡ frame_kept l.frame

abbrev pub decreases-loop-obu : goal.decreases-loop-obu
decreases-loop-obu l = length l.rest
