-- RED payloads written and read.
use Rattle.std.specs.Prelude.{◌≡◌, ◌≢◌, ◌⊎◌, ◌↔◌, ℕ, ◌+◌, ◌%◌, ◌≤◌, ◌<◌, nat_le, if◌then◌else◌, All, List, Option, Some, None, drop, length, map, slice_get, take}
use Rattle.codec_payload_core.specs.RedBlocks.{Block, blocks_in}
use Rattle.codec_payload_core.specs.RedPayload.{Red, Redundant, encoded}
use Rattle.codec_payload_core.specs.RedReading.{red_at}
use Rattle.codec_payload_core.specs.RedRecovery.{Receiver, RecoveredPacket, recovered}
use Rattle.codec_payload_handle.specs.Bytes.{filled}
use Rattle.codec_payload_c_packets.specs.declared.red_blocks.RecoveredInfo.{RecoveredInfo}
use Rattle.codec_payload_c_packets.specs.declared.red_blocks.RedBlockInfo.{RedBlockInfo}
use Rattle.codec_payload_c_packets.specs.declared.red_blocks.RedOlder.{RedOlder}

-- a block with its bytes from the media
abbrev pub cut_from : List ℕ → RedOlder → Redundant
cut_from media o = record { pt = o.payload_type; offset = o.offset; bytes = take o.bytes (drop o.start media) }

abbrev pub IsWithin : List ℕ → RedOlder → Type 0
IsWithin media o = o.start + o.bytes ≤ length media

-- 0 if the caller has room for the bytes, and otherwise 33
abbrev pub room_status : List ℕ → List ℕ → ℕ
room_status given room = if nat_le (length given) (length room) then 0 else 33

-- The encoded payload is written, or its size is reported. Status 37: the media lacks bytes of a block.
pub record WritesBlocks (primary_pt : ℕ) (primary : List ℕ) (older : List RedOlder) (media : List ℕ) (status : ℕ) (before bytes : List ℕ) (size : ℕ) : Type 0 where
  pub written : status ≢ 17 → status ≢ 37
      → (status ≡ room_status (encoded primary_pt primary (map (cut_from media) older)) before)
      × (bytes ≡ filled (encoded primary_pt primary (map (cut_from media) older)) before)
      × (size ≡ length (encoded primary_pt primary (map (cut_from media) older)))
  pub outside : status ≡ 37 → ¬ All (IsWithin media) older
  pub within : status ≢ 17 → status ≢ 37 → All (IsWithin media) older
  pub untouched : (status ≡ 17) ⊎ (status ≡ 37) → bytes ≡ before

-- the description of a block
pub record TellsBlock (b : Block) (status : ℕ) (info : RedBlockInfo) (before bytes : List ℕ) : Type 0 where
  pub answers : status ≡ room_status b.payload before
  pub size : info.bytes ≡ length b.payload
  pub offset : info.offset ≡ b.timestamp_offset
  pub payload_type : info.payload_type ≡ b.pt
  pub primary : info.is_primary ≡ b.is_primary
  pub writes : bytes ≡ filled b.payload before

abbrev pub GivesBlock : Option Block → ℕ → RedBlockInfo → List ℕ → List ℕ → Type 0
GivesBlock None status info before bytes = (status ≡ 32) × (bytes ≡ before)
GivesBlock (Some b) status info before bytes = TellsBlock b status info before bytes

-- The block with an index. Status 14: the payload is not valid RED. Status 17: out of memory.
pub record ReadsBlock (payload : List ℕ) (index status : ℕ) (info : RedBlockInfo) (before bytes : List ℕ) : Type 0 where
  pub corrupted : (status ≡ 14) ↔ (red_at payload ≡ None)
  pub reads : status ≢ 14 → status ≢ 17 → (red : Red) × (red_at payload ≡ Some red) × GivesBlock (slice_get (blocks_in red) index) status info before bytes
  pub untouched : (status ≡ 14) ⊎ (status ≡ 17) → bytes ≡ before

-- the description of a packet
pub record TellsRecovered (p : RecoveredPacket) (status : ℕ) (info : RecoveredInfo) (before bytes : List ℕ) : Type 0 where
  pub answers : status ≡ room_status p.bytes before
  pub number : info.number ≡ p.seq_no
  pub size : info.bytes ≡ length p.bytes
  pub time : info.rtp_time ≡ p.time
  pub primary : info.is_primary ≡ p.is_primary
  pub writes : bytes ≡ filled p.bytes before

abbrev pub GivesRecovered : Option RecoveredPacket → ℕ → RecoveredInfo → List ℕ → List ℕ → Type 0
GivesRecovered None status info before bytes = (status ≡ 32) × (bytes ≡ before)
GivesRecovered (Some p) status info before bytes = TellsRecovered p status info before bytes

abbrev pub receiver_of : ℕ → ℕ → Receiver
receiver_of primary_pt step = record { primary_pt = primary_pt % 128; step = step }

-- The packet with an index. Status 37: the step is 0 or above 16,383.
pub record Recovers (primary_pt step number time : ℕ) (payload : List ℕ) (index status : ℕ) (info : RecoveredInfo) (before bytes : List ℕ) : Type 0 where
  pub invalid : (status ≡ 37) ↔ ((step ≡ 0) ⊎ (16383 < step))
  pub corrupted : status ≢ 37 → (status ≡ 14) ↔ (red_at payload ≡ None)
  pub reads : status ≢ 37 → status ≢ 14 → status ≢ 17
      → (red : Red) × (red_at payload ≡ Some red) × GivesRecovered (slice_get (recovered (receiver_of primary_pt step) number time red) index) status info before bytes
  pub untouched : (status ≡ 37) ⊎ ((status ≡ 14) ⊎ (status ≡ 17)) → bytes ≡ before
