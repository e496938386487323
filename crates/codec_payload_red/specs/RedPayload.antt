-- RED payloads (RFC 2198, section 3): headers, then the bytes of the blocks.
use Rattle.std.specs.Prelude.{◌≡◌, ℕ, ◌+◌, ◌*◌, ◌/◌, ◌%◌, ◌<◌, ◌≤◌, List, [], ◌∷◌, ◌++◌, length, map, filter, take, Bool, ◌&&◌, nat_le}
use Rattle.std.specs.List.{flat_map, AllByRecursion}

-- an older block
pub record Redundant : Type 0 where
  pub pt : ℕ
  pub offset : ℕ
  pub bytes : List ℕ

-- the meaning of a payload: older blocks, and the primary one
pub record Red : Type 0 where
  pub redundant : List Redundant
  pub pt : ℕ
  pub primary : List ℕ

-- F set and 7 bits of type, 14 bits of offset, 10 bits of length
abbrev pub header_of : ℕ → ℕ → ℕ → List ℕ
header_of pt offset len = (128 + pt) ∷ offset / 64 ∷ (offset % 64 * 4 + len / 256) ∷ len % 256 ∷ []

abbrev pub header : Redundant → List ℕ
header b = header_of b.pt b.offset (length b.bytes)

-- the redundant headers, the primary one with F clear, the blocks in the order of their headers, and the primary's bytes to the end
abbrev pub spelling : Red → List ℕ
spelling r = flat_map header r.redundant ++ r.pt ∷ (flat_map (λ b. b.bytes) r.redundant ++ r.primary)

-- the values that a header can hold
pub record HasHeader (b : Redundant) : Type 0 where
  pub pt : b.pt < 128
  pub offset : b.offset ≤ 16383
  pub bytes : length b.bytes ≤ 1023

-- The bytes are a RED payload that represents r.
pub record IsRed (bytes : List ℕ) (r : Red) : Type 0 where
  pub each : AllByRecursion HasHeader r.redundant
  pub few : length r.redundant ≤ 32
  pub pt : r.pt < 128
  pub is : bytes ≡ spelling r

-- ---- the blocks that encoding keeps

-- the offset and the length fit their fields
abbrev pub fits : Redundant → Bool
fits b = nat_le b.offset 16383 && nat_le (length b.bytes) 1023

-- with the type in 7 bits
abbrev pub masked : Redundant → Redundant
masked b = record { pt = b.pt % 128; offset = b.offset; bytes = b.bytes }

-- the first 32 blocks that fit, and the primary
abbrev pub kept_of : ℕ → List ℕ → List Redundant → Red
kept_of pt primary blocks = record { redundant = map masked (take 32 (filter fits blocks)); pt = pt % 128; primary = primary }

-- the bytes that encode writes
abbrev pub encoded : ℕ → List ℕ → List Redundant → List ℕ
encoded pt primary blocks = spelling (kept_of pt primary blocks)
