use Rattle.std.proofs.Common.{◌≡◌, ◌≤◌, length}
use Rattle.codec_payload_media.specs.OpusPackets.{unpadded}
use Rattle.codec_payload_media.proofs.opus.remove_padding.Given as goal

abbrev pub invariant-loop-rest : goal.invariant-loop-rest
invariant-loop-rest l = record {
  room : l.room ≤ length l.rest;
  same : unpadded l.room l.rest ≡ unpadded (length l.bytes) l.bytes;
}

abbrev pub decreases-loop-rest : goal.decreases-loop-rest
decreases-loop-rest l = length l.rest
