use Rattle.std.proofs.Common.{◌≡◌}
use Rattle.std.specs.Prelude.{option_to_list}
use Rattle.codec_payload_fec.specs.Fec.{numbers_in}
use Rattle.codec_payload_fec.specs.Rebuilding.{found_in, missing_of}
use Rattle.codec_payload_fec.proofs.packet.FecPacket.only_missing.Given as goal

-- the numbers in front of the place under which no packet came are at most one
abbrev pub invariant-loop-place : goal.invariant-loop-place
invariant-loop-place l = option_to_list l.missing ≡ missing_of (found_in l.store.slots) (numbers_in l.place l.mask l.self.base)
