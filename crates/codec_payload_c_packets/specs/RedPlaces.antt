-- The places of blocks in a RED payload.
use Rattle.std.specs.Prelude.{◌≡◌, ◌≢◌, ◌↔◌, ℕ, ◌+◌, ◌-◌, ◌*◌, ◌<◌, nat_le, if◌then◌else◌, false, List, [], ◌∷◌, Some, None, length, drop, take, slice_get, slice_index_or}
use Rattle.codec_payload_core.specs.RedBlocks.{Block, blocks_in}
use Rattle.codec_payload_core.specs.RedPayload.{Red}
use Rattle.codec_payload_core.specs.RedReading.{red_at}
use Rattle.codec_payload_c_packets.specs.declared.red_places.RedBlockPlace.{RedBlockPlace}

-- how many bytes the blocks have in total
abbrev pub bytes_in : List Block → ℕ
bytes_in [] = 0
bytes_in (b ∷ bs) = length b.payload + bytes_in bs

abbrev pub no_block : Block
no_block = record { pt = 0; timestamp_offset = 0; payload = []; is_primary = false }

-- the block at an index
abbrev pub block_at : List Block → ℕ → Block
block_at bs index = slice_index_or bs index no_block

-- where the first block begins: after four bytes for each redundant block, and one byte for the primary block
abbrev pub front_of : List Block → ℕ
front_of bs = 4 * length bs - 3

-- the place of the block with an index, and the fields of its header; `front` is the place of the first block
abbrev pub block_place : ℕ → List Block → ℕ → RedBlockPlace
block_place front bs index = record {
  start = front + bytes_in (take index bs);
  bytes = length (block_at bs index).payload;
  offset = (block_at bs index).timestamp_offset;
  payload_type = (block_at bs index).pt;
  is_primary = (block_at bs index).is_primary;
}

-- the payload has the bytes of the block at this place
abbrev pub LiesThere : List ℕ → List Block → ℕ → Type 0
LiesThere payload bs index = take (length (block_at bs index).payload) (drop (front_of bs + bytes_in (take index bs)) payload) ≡ (block_at bs index).payload

-- The places of blocks are written, or there is no room for them. Their number is reported in both cases.
pub record GivesPlaces (payload : List ℕ) (bs : List Block) (status : ℕ) (before after : List RedBlockPlace) (count : ℕ) : Type 0 where
  pub answers : status ≡ (if nat_le (length bs) (length before) then 0 else 33)
  pub counted : count ≡ length bs
  pub tells : status ≡ 0 → (index : ℕ) → index < length bs → slice_get after index ≡ Some (block_place (front_of bs) bs index)
  pub lies : (index : ℕ) → index < length bs → LiesThere payload bs index
  pub behind : status ≡ 0 → drop (length bs) after ≡ drop (length bs) before

-- The blocks of a payload. Status 14: it is not valid RED. Status 17: out of memory.
pub record PlacesBlocks (payload : List ℕ) (status : ℕ) (before after : List RedBlockPlace) (count : ℕ) : Type 0 where
  pub corrupted : (status ≡ 14) ↔ (red_at payload ≡ None)
  pub reads : status ≢ 14 → status ≢ 17 → (red : Red) × (red_at payload ≡ Some red) × GivesPlaces payload (blocks_in red) status before after count
