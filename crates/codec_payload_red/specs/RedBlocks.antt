-- Blocks in memory, and the results of calls.
use Rattle.std.specs.Prelude.{◌≡◌, ◌++◌, ℕ, Bool, true, false, ◌&&◌, ◌==◌, nat_lt, List, [], ◌∷◌, map, filter, Option, Some, None, is_some}
use Rattle.codec_payload_base.specs.declared.error.PacketError.{PacketError}
use Rattle.codec_payload_base.specs.declared.error.PacketError.TheVariants as faults
use Rattle.codec_payload_red.specs.declared.red.blocks.BlockPart.{BlockPart}
use Rattle.codec_payload_red.specs.declared.red.blocks.BlockPart.TheVariants as parts
use Rattle.codec_payload_red.specs.declared.red.blocks.RedBlock.{RedBlock}
use Rattle.codec_payload_red.specs.declared.red.blocks.RedundantBlock.{RedundantBlock}
use Rattle.codec_payload_red.specs.RedPayload.{Redundant, Red, header}

-- a block without its place
pub record Block : Type 0 where
  pub pt : ℕ
  pub timestamp_offset : ℕ
  pub payload : List ℕ
  pub is_primary : Bool

abbrev pub block_of : RedBlock → Block
block_of b = record { pt = b.pt; timestamp_offset = b.timestamp_offset; payload = b.payload.now; is_primary = b.is_primary }

abbrev pub blocks_of : List RedBlock → List Block
blocks_of bs = map block_of bs

abbrev pub older : Redundant → Block
older b = record { pt = b.pt; timestamp_offset = b.offset; payload = b.bytes; is_primary = false }

-- the older blocks in order, and the primary last
abbrev pub blocks_in : Red → List Block
blocks_in r = map older r.redundant ++ record { pt = r.pt; timestamp_offset = 0; payload = r.primary; is_primary = true } ∷ []

-- a block as an older one
abbrev pub older_of : RedBlock → Redundant
older_of b = record { pt = b.pt; offset = b.timestamp_offset; bytes = b.payload.now }

abbrev pub redundant_of : RedundantBlock → Redundant
redundant_of b = record { pt = b.pt; offset = b.timestamp_offset; bytes = b.payload.items }

-- the header of a block, or its bytes
abbrev pub part_of : BlockPart → Redundant → List ℕ
part_of parts.Header b = header b
part_of parts.Bytes b = b.bytes

-- The bytes are refused only if reading finds nothing, and memory runs out only if reading finds something.
abbrev pub Fails : PacketError → Option Red → Type 0
Fails faults.OutOfMemory read = is_some read ≡ true
Fails faults.ErrRedCorruptedPacket read = read ≡ None
Fails _ read = ⊥

-- The blocks are the ones that reading finds.
abbrev pub Decodes : Option Red → List Block → Type 0
Decodes read blocks = (r : Red) × (read ≡ Some r) × (blocks ≡ blocks_in r)

abbrev pub same_pt : ℕ → List RedBlock → List RedBlock
same_pt pt = filter (λ b. (b.pt == pt) && nat_lt 0 b.timestamp_offset)
