use Rattle.std.proofs.Common.{◌≡◌, drop}
use Rattle.codec_payload_references.specs.Frames.{mask_of}
use Rattle.codec_payload_references.proofs.frames.mask_of.Given as goal

-- the distances that are left go into the mask as all go into an empty one
abbrev pub invariant-loop-distance : goal.invariant-loop-distance
invariant-loop-distance l = mask_of l.mask (drop l.distance-index l.distances) ≡ mask_of 0 l.distances
