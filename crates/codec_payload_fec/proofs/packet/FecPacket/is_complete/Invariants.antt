use Rattle.std.proofs.Common.{◌≡◌, []}
use Rattle.codec_payload_fec.specs.Fec.{numbers_in}
use Rattle.codec_payload_fec.specs.Rebuilding.{found_in, missing_of}
use Rattle.codec_payload_fec.proofs.packet.FecPacket.is_complete.Given as goal

-- no number in front of the place is missing
abbrev pub invariant-loop-place : goal.invariant-loop-place
invariant-loop-place l = [] ≡ missing_of (found_in l.store.slots) (numbers_in l.place l.mask l.self.base)
