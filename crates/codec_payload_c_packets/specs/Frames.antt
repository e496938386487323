-- The packets of a frame in the output buffer, each with room in front of it and after it.
use Rattle.std.specs.Prelude.{◌≡◌, ◌≢◌, ◌⊎◌, ℕ, ◌+◌, ◌<◌, ◌≤◌, ◌==◌, ◌&&◌, ◌||◌, nat_le, if◌then◌else◌, Bool, true, false, List, [], ◌∷◌, ◌++◌, Some, Ok, Err, length, slice_get, slice_index_or, take, drop}
use Rattle.codec_payload_core.specs.Faults.{fault_number}
use Rattle.codec_payload_core.specs.Packetizers.{PacketizerState, PacketizerStep, G711Packetizing, G722Packetizing, OpusPacketizing, packetizer_state_of, is_built_in, marker_of, talk_spurt_of, nackable_of}
use Rattle.codec_payload_core.specs.declared.error.PacketError.{PacketError}
use Rattle.codec_payload_handle.specs.declared.object.FrameSender.{FrameSender}
use Rattle.codec_payload_c_packets.specs.declared.frames.FrameCut.{FrameCut}
use Rattle.codec_payload_c_packets.specs.declared.frames.FrameRoom.{FrameRoom}
use Rattle.codec_payload_c_packets.specs.declared.frames.PlacedPacket.{PlacedPacket}

-- how many bytes payloads need with this much room for each
abbrev pub size_with : ℕ → List (List ℕ) → ℕ
size_with rooms [] = 0
size_with rooms (p ∷ ps) = rooms + length p + size_with rooms ps

-- the room for a payload
abbrev pub rooms_in : FrameCut → ℕ
rooms_in cut = cut.headroom + cut.tailroom

-- a number, limited to 64 bits
abbrev pub capped : ℕ → ℕ
capped n = if nat_le n 18446744073709551615 then n else 18446744073709551615

-- the bytes with payloads in them: unchanged room, a payload, unchanged room, and so on; the bytes after the last room are
-- unchanged
abbrev pub laid : ℕ → ℕ → List (List ℕ) → List ℕ → List ℕ
laid front back [] bytes = bytes
laid front back (p ∷ ps) bytes =
    take front bytes ++ (p ++ (take back (drop (front + length p) bytes) ++ laid front back ps (drop (front + length p + back) bytes)))

-- the description of the packet at a place
abbrev pub placed_at : PacketizerState → FrameCut → List (List ℕ) → ℕ → PlacedPacket
placed_at packetizer cut payloads place = record {
  offset = size_with (rooms_in cut) (take place payloads) + cut.headroom;
  bytes = length (slice_index_or payloads place []);
  marker = marker_of packetizer (place + 1 == length payloads) || (cut.starts_talk_spurt && talk_spurt_of packetizer);
  nackable = nackable_of packetizer;
}

-- the caller's bytes and descriptions before and after a call, and the reported size
pub record Laying : Type 0 where
  pub before : List ℕ
  pub bytes : List ℕ
  pub told_before : List PlacedPacket
  pub told : List PlacedPacket
  pub room : FrameRoom

-- the packets are in the output buffer, and are described
pub record Lays (payloads : List (List ℕ)) (packetizer : PacketizerState) (cut : FrameCut) (l : Laying) : Type 0 where
  pub enough : size_with (rooms_in cut) payloads ≤ length l.before
  pub many : length payloads ≤ length l.told_before
  pub writes : l.bytes ≡ laid cut.headroom cut.tailroom payloads l.before
  pub tells : (place : ℕ) → place < length payloads → slice_get l.told place ≡ Some (placed_at packetizer cut payloads place)
  pub behind : drop (length payloads) l.told ≡ drop (length payloads) l.told_before

-- The packets are written with status 0. Status 33: there is no room for them. Their size is reported in both cases.
pub record LaysPackets (payloads : List (List ℕ)) (packetizer : PacketizerState) (cut : FrameCut) (status : ℕ) (l : Laying) : Type 0 where
  pub bytes : l.room.bytes ≡ capped (size_with (rooms_in cut) payloads)
  pub count : l.room.count ≡ length payloads
  pub ok : status ≡ 0 → Lays payloads packetizer cut l
  pub too_small : status ≢ 0 → (status ≡ 33) × ((length l.before < size_with (rooms_in cut) payloads) ⊎ (length l.told_before < length payloads))
  pub untouched : status ≢ 0 → (l.bytes ≡ l.before) × (l.told ≡ l.told_before)

-- the packets of a packetized frame are written, or do not fit
pub record LaysCut (r : FrameSender) (cut : FrameCut) (frame : List ℕ) (status : ℕ) (l : Laying) (packetizer : PacketizerState) : Type 0 where
  pub payloads : List (List ℕ)
  pub cuts : PacketizerStep (packetizer_state_of r.packetizer) cut.mtu frame (Ok payloads) packetizer
  pub lays : LaysPackets payloads packetizer cut status l

-- A frame is packetized into the output buffer. If the status is not 0, the packetizer is unchanged, so you can pass the frame
-- again. Packets of the other call, and how many of them were fetched, always stay. Status 37: a custom packetizer.
pub record LaysFrame (r : FrameSender) (cut : FrameCut) (frame : List ℕ) (status : ℕ) (l : Laying) (s : FrameSender) : Type 0 where
  pub ok : status ≡ 0 → LaysCut r cut frame status l (packetizer_state_of s.packetizer)
  pub too_small : status ≡ 33 → (packetizer : PacketizerState) × LaysCut r cut frame status l packetizer
  pub fault : status ≢ 0 → status ≢ 33 → status ≢ 37 → (e : PacketError) × (packetizer : PacketizerState) × (status ≡ fault_number e) × PacketizerStep (packetizer_state_of r.packetizer) cut.mtu frame (Err e) packetizer
  pub foreign : status ≡ 37 → is_built_in (packetizer_state_of r.packetizer) ≡ false
  pub unchanged : status ≢ 0 → packetizer_state_of s.packetizer ≡ packetizer_state_of r.packetizer
  pub stays : (s.packets ≡ r.packets) × (s.taken ≡ r.taken) × (s.marked ≡ r.marked)

-- ---- a frame that is one packet as it is

-- the packetizer sends pieces of frames without headers: such a frame is one packet if it fits
abbrev pub sends_pieces : PacketizerState → Bool
sends_pieces OpusPacketizing = true
sends_pieces G711Packetizing = true
sends_pieces G722Packetizing = true
sends_pieces packetizer = false
