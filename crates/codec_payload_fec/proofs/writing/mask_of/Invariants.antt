use Rattle.std.proofs.Common.{◌≡◌, ◌<◌}
use Rattle.codec_payload_fec.specs.Writing.{mask_in}
use Rattle.codec_payload_fec.proofs.writing.mask_of.Given as goal

abbrev pub invariant-loop-place : goal.invariant-loop-place
invariant-loop-place l = (l.mask ≡ mask_in l.place l.size l.count l.n) × (l.mask < 281474976710656)
