use Rattle.std.proofs.Common.{◌≡◌, ◌+◌, ◌≤◌, length}
use Rattle.std.specs.Option.{option_map}
use Rattle.codec_payload_av1.specs.Av1Obu.{frame_kept}
use Rattle.codec_payload_av1.specs.Av1Size.{bytes_sent}
use Rattle.codec_payload_av1.proofs.av1.packetizer.kept_size.Given as goal

abbrev pub invariant-loop-rest : goal.invariant-loop-rest
invariant-loop-rest l = record {
  so_far : option_map (λ os. l.size + bytes_sent os) (frame_kept l.rest) ≡ option_map bytes_sent (frame_kept l.frame);
  few : l.size + length l.rest ≤ length l.frame;
}

abbrev pub decreases-loop-rest : goal.decreases-loop-rest
decreases-loop-rest l = length l.rest
