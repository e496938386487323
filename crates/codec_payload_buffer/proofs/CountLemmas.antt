-- What a loop over packets has counted.
use Rattle.std.proofs.Common.{◌≡◌, ℕ, ◌+◌, ◌≤◌, [], ◌∷◌, List, length, map, arith}
use Rattle.std.specs.Prelude.{min}
use Rattle.codec_payload_buffer.specs.declared.buffer.held_packet.HeldPacket.{HeldPacket}
use Rattle.codec_payload_buffer.specs.Held.{held_of}
use Rattle.codec_payload_buffer.specs.Scan.{total_size}

-- where no packet is left, all bytes have been counted
pub all_counted : (rest : List HeldPacket) (size total most : ℕ) → length rest ≡ 0 → size ≤ most → min (size + total_size (map held_of rest)) most ≡ min total most → size ≡ min total most
all_counted [] size total most none fits counted = omega (arith, counted)
all_counted (x ∷ rest) size total most none fits counted = absurd (omega arith)
