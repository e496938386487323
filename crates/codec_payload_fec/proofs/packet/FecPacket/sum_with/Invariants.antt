use Rattle.std.proofs.Common.{◌≡◌}
use Rattle.codec_payload_fec.specs.Fec.{numbers_in}
use Rattle.codec_payload_fec.specs.FecReading.{fec_of}
use Rattle.codec_payload_fec.specs.Rebuilding.{found_in, found_of}
use Rattle.codec_payload_fec.specs.Strings.{added_all}
use Rattle.codec_payload_fec.specs.Sums.{sum_of}
use Rattle.codec_payload_fec.proofs.packet.FecPacket.sum_with.Given as goal

-- the packets in front of the place were added
abbrev pub invariant-loop-place : goal.invariant-loop-place
invariant-loop-place l = sum_of l.sum ≡ added_all (found_of (found_in l.store.slots) (numbers_in l.place l.mask l.self.base)) (fec_of l.self).recovery
