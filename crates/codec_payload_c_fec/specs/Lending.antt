-- Packets that are lent to the caller.
use Rattle.std.specs.Prelude.{◌≡◌, ℕ, length}
use Rattle.std_alloc.specs.Vec.{vec_ptr}
use Rattle.std.specs.Global.{Vec}
use Rattle.codec_payload_c_fec.specs.declared.lending.LentPacket.{LentPacket}

-- where the packet is: the block of these bytes
abbrev pub IsLent : Vec ℕ → LentPacket → Type 0
IsLent bytes packet = (packet.at ≡ vec_ptr bytes) × (packet.bytes ≡ length bytes.items)
