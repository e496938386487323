-- The calls on a packetizer.
use Rattle.std.specs.Prelude.{◌≡◌, ◌≢◌, ℕ, ◌+◌, ◌==◌, ◌&&◌, ◌||◌, Bool, nat_le, if◌then◌else◌, List, [], Option, Some, None, Ok, Err, IfSome, length, map, slice_get}
use Rattle.codec_payload_core.specs.Faults.{fault_number}
use Rattle.codec_payload_core.specs.Packetizers.{PacketizerState, PacketizerStep, packetizer_state_of, is_built_in, marker_of, talk_spurt_of, nackable_of}
use Rattle.codec_payload_core.specs.declared.error.PacketError.{PacketError}
use Rattle.codec_payload_handle.specs.Bytes.{filled}
use Rattle.codec_payload_handle.specs.declared.object.Object.{Object}
use Rattle.codec_payload_handle.specs.declared.object.Object.TheVariants as objects
use Rattle.codec_payload_handle.specs.declared.object.FrameSender.{FrameSender}
use Rattle.codec_payload_c_packets.specs.declared.packetizer.PacketInfo.{PacketInfo}

-- the packets of the latest frame
abbrev pub packets_in : FrameSender → List (List ℕ)
packets_in r = map (λ p. p.items) r.packets.items

-- a new packetizer, without packets
abbrev pub IsFrameSenderOf : Option PacketizerState → Object → Type 0
IsFrameSenderOf packetizer (objects.FrameSender s) = (Some (packetizer_state_of s.value.packetizer) ≡ packetizer) × (packets_in s.value ≡ []) × (s.value.taken ≡ 0)
IsFrameSenderOf packetizer _ = ⊥

-- A frame is packetized: its packets can be fetched, from the first one, and packets of the previous frame are discarded. After
-- an error the packets are unchanged.
pub record CutsFrame (r : FrameSender) (mtu : ℕ) (starts : Bool) (frame : List ℕ) (status count : ℕ) (s : FrameSender) : Type 0 where
  pub ok : status ≡ 0 → PacketizerStep (packetizer_state_of r.packetizer) mtu frame (Ok (packets_in s)) (packetizer_state_of s.packetizer)
  pub counted : status ≡ 0 → count ≡ length (packets_in s)
  pub none_taken : status ≡ 0 → s.taken ≡ 0
  pub marked : status ≡ 0 → is_built_in (packetizer_state_of s.packetizer) ≡ Bool.true → s.marked ≡ (starts && talk_spurt_of (packetizer_state_of s.packetizer))
  pub fault : status ≢ 0 → (e : PacketError) × (status ≡ fault_number e) × PacketizerStep (packetizer_state_of r.packetizer) mtu frame (Err e) (packetizer_state_of s.packetizer)
  pub stays : status ≢ 0 → (s.packets ≡ r.packets) × (s.taken ≡ r.taken) × (s.marked ≡ r.marked)

-- the next packet to fetch
abbrev pub next_in : FrameSender → Option (List ℕ)
next_in r = slice_get (packets_in r) r.taken

-- 0 if there is a packet and the caller has room for it, 33 if the room is too small, 32 if there is no packet
abbrev pub packet_status : Option (List ℕ) → ℕ → ℕ
packet_status None room = 32
packet_status (Some p) room = if nat_le (length p) room then 0 else 33

-- the description of the next packet
pub record TellsPacket (r : FrameSender) (p : List ℕ) (info : PacketInfo) : Type 0 where
  pub bytes : info.bytes ≡ length p
  pub marker : is_built_in (packetizer_state_of r.packetizer) ≡ Bool.true → info.marker ≡ (r.marked || marker_of (packetizer_state_of r.packetizer) (r.taken + 1 == length (packets_in r)))
  pub nackable : is_built_in (packetizer_state_of r.packetizer) ≡ Bool.true → info.nackable ≡ nackable_of (packetizer_state_of r.packetizer)

-- The next packet is fetched, or stays if the output buffer is too small.
pub record GivesPacket (r : FrameSender) (status : ℕ) (info : PacketInfo) (before bytes : List ℕ) (s : FrameSender) : Type 0 where
  pub answers : status ≡ packet_status (next_in r) (length before)
  pub tells : IfSome (next_in r) (λ p. TellsPacket r p info)
  pub writes : IfSome (next_in r) (λ p. bytes ≡ filled p before)
  pub untouched : next_in r ≡ None → bytes ≡ before
  pub takes : s.taken ≡ (if status == 0 then r.taken + 1 else r.taken)
  pub packets : s.packets ≡ r.packets
  pub packetizer : packetizer_state_of s.packetizer ≡ packetizer_state_of r.packetizer
  pub marked : s.marked ≡ r.marked
