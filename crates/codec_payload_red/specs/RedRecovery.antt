-- The packets that a RED receiver recovers from the payload of a packet (RFC 2198, section 3).
use Rattle.std.specs.Prelude.{◌≡◌, ℕ, ◌+◌, ◌-◌, ◌/◌, ◌%◌, ◌^◌, Bool, true, false, ◌&&◌, ◌==◌, nat_lt, nat_le, List, Option, Some, None, if◌then◌else◌}
use Rattle.std.specs.List.{filter_map}
use Rattle.codec_payload_red.specs.declared.red.receiver.Recovered.{Recovered}
use Rattle.codec_payload_red.specs.RedPayload.{Red}
use Rattle.codec_payload_red.specs.RedBlocks.{Block, blocks_in}

-- a receiver: the type of the blocks in 7 bits, and the ticks from packet to packet
pub record Receiver : Type 0 where
  pub primary_pt : ℕ
  pub step : ℕ

-- a recovered packet, without the place of its bytes
pub record RecoveredPacket : Type 0 where
  pub seq_no : ℕ
  pub time : ℕ
  pub bytes : List ℕ
  pub is_primary : Bool

abbrev pub packet_of : Recovered → RecoveredPacket
packet_of p = record { seq_no = p.seq_no.0; time = p.rtp_time; bytes = p.payload.now; is_primary = p.is_primary }

-- An older block is the packet as many numbers back as its offset has steps: 1 to 8, no part of one over, and not below number 0.
abbrev pub recovered_older : Receiver → ℕ → ℕ → Block → Option RecoveredPacket
recovered_older r seq_no time b = let n = b.timestamp_offset / r.step in
    if nat_lt 0 b.timestamp_offset && (b.timestamp_offset % r.step == 0) && nat_le n 8 && nat_le n seq_no
    then Some (record { seq_no = seq_no - n; time = (time + (2 ^ 32 - b.timestamp_offset)) % 2 ^ 32; bytes = b.payload; is_primary = false })
    else None

-- The packet in a block: none if the type is another, and the packet itself for the primary block.
abbrev pub recovered_from : Receiver → ℕ → ℕ → Block → Option RecoveredPacket
recovered_from r seq_no time b =
    if b.pt == r.primary_pt
    then if b.is_primary then Some (record { seq_no = seq_no; time = time; bytes = b.payload; is_primary = true }) else recovered_older r seq_no time b
    else None

-- in payload order, the primary one last
abbrev pub recovered : Receiver → ℕ → ℕ → Red → List RecoveredPacket
recovered r seq_no time red = filter_map (recovered_from r seq_no time) (blocks_in red)

-- The packets are the ones in the blocks that reading finds.
abbrev pub Recovers : Receiver → ℕ → ℕ → Option Red → List RecoveredPacket → Type 0
Recovers r seq_no time read packets = (red : Red) × (read ≡ Some red) × (packets ≡ recovered r seq_no time red)
