-- Chunks of source descriptions that are written, one after another.
use Rattle.std.specs.Prelude.{◌≡◌, ℕ, ◌/◌, ◌&&◌, nat_le, Bool, true, false, List, [], ◌∷◌, ◌++◌, length, Result, Ok, Err}
use Rattle.codec_payload_rtcp.specs.declared.packet.RtcpError.{RtcpError}
use Rattle.codec_payload_rtcp.specs.Steps.{fault_of}
use Rattle.std.specs.Int.{w32, to_be_bytes}
use Rattle.codec_payload_rtcp.specs.RtcpPackets.{header_bytes}
use Rattle.codec_payload_rtcp.specs.RtcpWriting.{ending_zeros}
use Rattle.codec_payload_rtcp.specs.Sdes.{Item, Chunk, FitsChunk, IsChunk, items_bytes}
use Rattle.codec_payload_rtcp.specs.SdesReading.{chunks_at, chunks_in}
use Rattle.codec_payload_rtcp.specs.RtcpItems.{are_items}

-- the type of an item is not 0, and its text has at most 255 bytes
abbrev pub item_fits : Item → Bool
item_fits i = nat_le 1 i.kind && nat_le (length i.text) 255

abbrev pub items_fit : List Item → Bool
items_fit [] = true
items_fit (i ∷ is) = item_fits i && items_fit is

abbrev pub is_read : Result (Unit {0}) RtcpError → Bool
is_read (Ok x) = true
is_read (Err e) = false

-- at most 31 chunks, read without a fault, in whole words whose number fits into the length of a packet
abbrev pub description_fits : ℕ → List ℕ → Bool
description_fits count chunks = nat_le count 31 && are_items 4 0 262140 (length chunks) && is_read (fault_of (chunks_at count chunks))

-- new is old with the bytes of the chunk at its end, which fits
abbrev pub AppendsChunk : List ℕ → List ℕ → Chunk → Type 0
AppendsChunk old new c = (written : List ℕ) × FitsChunk c × IsChunk c written × (new ≡ old ++ written)

-- the SSRC, the items, and the fewest zeros that end them and a word
abbrev pub chunk_bytes : Chunk → List ℕ
chunk_bytes c = to_be_bytes w32 c.ssrc ++ (items_bytes c.items ++ ending_zeros (length (items_bytes c.items)))

-- a source description of one chunk: the header with the length in words less one, and the chunk
abbrev pub description_bytes : Chunk → List ℕ
description_bytes c = header_bytes false 1 202 (length (chunk_bytes c) / 4) ++ chunk_bytes c

-- these chunks, and nothing after them
abbrev pub AreWholeChunks : List Chunk → List ℕ → Type 0
AreWholeChunks [] bytes = bytes ≡ []
AreWholeChunks (c ∷ cs) bytes = (front : List ℕ) × (rest : List ℕ) × FitsChunk c × IsChunk c front × AreWholeChunks cs rest × (bytes ≡ front ++ rest)

-- what was appended to chunks is a chunk more
abbrev pub OneMoreChunk : Type 0
OneMoreChunk = (cs : List Chunk) (old new : List ℕ) (c : Chunk) → AreWholeChunks cs old → AppendsChunk old new c → AreWholeChunks (cs ++ c ∷ []) new

-- chunks that were appended are read without a fault, and are these chunks
abbrev pub ChunksComeBack : Type 0
ChunksComeBack = (cs : List Chunk) (bytes : List ℕ) → AreWholeChunks cs bytes → (is_read (fault_of (chunks_at (length cs) bytes)) ≡ true) × (chunks_in (length cs) bytes ≡ cs)
